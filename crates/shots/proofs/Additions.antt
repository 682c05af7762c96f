-- Adding: the loops, and that there is room where neither 19 nor 9 is given.
-- Assumes nothing.
use mathlib.Core.Path.{◌≡◌, refl, ap, ◌∙◌}
use mathlib.Core.Bool.{Bool, true, false, ◌||◌}
use mathlib.Core.List.{List, [], ◌∷◌, ◌++◌}
use Prim.Native.Nat.{ℕ, zero, suc, ◌+◌, ◌-◌, ◌≤◌, ◌<◌}
use native.Mathlib.Nat.{not-suc-le-zero}
use native.Mathlib.Numerals.{add-one}
use native.Mathlib.Omega.{arith}
use borrow.Author.Tests.{eq-eqb, ne_eqb, eqb-false, ltb-false}
use lib.Dec.{ltb, eqb}
use lib.ListN.{length, get_or, take, drop, set, replicate, length-replicate, length-append, length-drop, drop_of_length-le}
use lib.Seq.{drop-cons, length-take-le}
use Rattle.layout.specs.Answer.{pick}
use Rattle.layout.proofs.laws.Writing.{Owes, byte, end}
use Rattle.layout.proofs.laws.Numbers.{zero_one}
use Rattle.tree.specs.Table.{Table, flags, start_of, end_of}
use Rattle.shots.specs.Collected.{alive, kept_by, ends_kept, names_kept, ahead, places, live_names, collected}
use Rattle.shots.specs.Added.{up_from, last_end, tight, base, new_places}
use Rattle.shots.specs.Facts.{Spaced, Fit, Fronted, Gathered, Room, Based}
use Rattle.shots.proofs.Movings.{fronted, start_inside}
use Rattle.shots.proofs.Gatherings.{flags_long, alive_in, ahead_long, ahead_at, places_long}

-- ── each its own ──

pub up_long : (k m : ℕ) → length (up_from k m) ≡ m
unfolding up_from
up_long k zero = refl
up_long k (suc m) = ap suc (up_long (suc k) m)

pub record Owning (n : ℕ) (old now : List ℕ) (k : ℕ) : Type 0 where
  pub owes : Owes now k (up_from k (n - k)) old 0 (up_from 0 n)
  pub within : k ≤ n

pub owning_on : {n : ℕ} {old now : List ℕ} {k : ℕ} → Owning n old now k → k < n → Owning n old (set now k k) (k + 1)
unfolding up_from
owning_on {n} {old} {now} {k} v h = record { owes = byte (let m : n - k ≡ suc (n - suc k) = omega arith in rw (add-one k, m)) v.owes; within = omega arith }

pub owning_end : {n : ℕ} {old now : List ℕ} {k : ℕ} → Owning n old now k → n ≤ length old → n ≤ k → Fronted (up_from 0 n) old now k
unfolding up_from
owning_end {n} {old} {now} {k} v f h = let w = v.within in fronted (end (let m : n - k ≡ 0 = omega arith in rw m) v.owes) (omega arith)

-- ── how many are live ──

pub record Counting (ms : List ℕ) (n k : ℕ) : Type 0 where
  pub counts : n + alive (drop k ms) ≡ alive ms
  pub behind : n ≤ k

module _ {ms : List ℕ} {n k : ℕ} (v : Counting ms n k) (h : k < length ms) where
  pub counting_hit : ltb 0 (get_or ms k 0) ≡ true → Counting ms (n + 1) (k + 1)
  unfolding alive
  counting_hit e = record {
    counts = let c : n + alive (get_or ms k 0 ∷ drop (suc k) ms) ≡ alive ms = rw (drop-cons ms k 0 h) at v.counts in let d : n + (1 + alive (drop (suc k) ms)) ≡ alive ms = rw e at c in rw (add-one k) (omega arith);
    behind = let b = v.behind in omega arith;
  }

  pub counting_skip : ltb 0 (get_or ms k 0) ≡ false → Counting ms n (k + 1)
  unfolding alive
  counting_skip e = record {
    counts = let c : n + alive (get_or ms k 0 ∷ drop (suc k) ms) ≡ alive ms = rw (drop-cons ms k 0 h) at v.counts in let d : n + (0 + alive (drop (suc k) ms)) ≡ alive ms = rw e at c in rw (add-one k) (omega arith);
    behind = let b = v.behind in omega arith;
  }

pub counting_end : {ms : List ℕ} {n k : ℕ} → Counting ms n k → length ms ≤ k → n ≡ alive ms
unfolding alive
counting_end {ms} {n} {k} v h = let z : n + alive [] ≡ alive ms = rw (drop_of_length-le ms h) at v.counts in omega arith

-- ── the live names' bytes ──

pub record Sparing (ms es ns : List ℕ) (o from k : ℕ) : Type 0 where
  pub counts : o + length (names_kept from (drop k ms) (drop k es) ns) ≡ length (names_kept 0 ms es ns)
  pub behind : o ≤ from
  pub begins : from ≡ start_of es k
  pub within : k ≤ length ms

module _ {ms es ns : List ℕ} {o from k : ℕ} (v : Sparing ms es ns o from k) (fits : length ms ≤ length es) where
  module _ (h : k < length ms) (up : start_of es k ≤ end_of es k) (in_it : end_of es k ≤ length ns) where
    pub sparing_hit : ltb 0 (get_or ms k 0) ≡ true → Sparing ms es ns (o + (get_or es k 0 - from)) (get_or es k 0) (k + 1)
    unfolding names_kept
    sparing_hit e =
        let b = v.behind in
        let g = v.begins in
        let q : names_kept from (drop k ms) (drop k es) ns ≡ take (get_or es k 0 - from) (drop from ns) ++ names_kept (get_or es k 0) (drop (k + 1) ms) (drop (k + 1) es) ns
        = rw (add-one k, drop-cons ms k 0, drop-cons es k 0 (omega arith), e) in
        let d = length-append (take (get_or es k 0 - from) (drop from ns)) (names_kept (get_or es k 0) (drop (k + 1) ms) (drop (k + 1) es) ns) in
        let long = length-take-le (get_or es k 0 - from) (drop from ns) (let l = length-drop from ns in omega arith) in
        let c = v.counts in
        let z = ap length q in
        record { counts = omega arith; behind = omega arith; begins = rw add-one; within = omega arith }

    pub sparing_skip : ltb 0 (get_or ms k 0) ≡ false → Sparing ms es ns o (get_or es k 0) (k + 1)
    unfolding names_kept
    sparing_skip e =
        let b = v.behind in
        let g = v.begins in
        let q : names_kept from (drop k ms) (drop k es) ns ≡ names_kept (get_or es k 0) (drop (k + 1) ms) (drop (k + 1) es) ns
        = rw (add-one k, drop-cons ms k 0, drop-cons es k 0 (omega arith), e) in
        let c = v.counts in
        let z = ap length q in
        record { counts = omega arith; behind = omega arith; begins = rw add-one; within = omega arith }

  pub sparing_end : Spaced (length ms) es (length ns) → length ms ≤ k → (o ≡ length (names_kept 0 ms es ns)) × (o ≤ length ns)
  unfolding names_kept
  sparing_end s h =
      let b = v.behind in
      let g = v.begins in
      let i = start_inside s k v.within in
      let z : o + length (names_kept from [] (drop k es) ns) ≡ length (names_kept 0 ms es ns) = rw (drop_of_length-le ms h) at v.counts in
      (omega arith, omega arith)

-- ── where the last live name ends ──

-- from `at` on, the live names' ends end where their bytes do
last_by : (from at : ℕ) (ms es ns rest : List ℕ) → length ms ≤ length es → ((k : ℕ) → k < length ms → (get_or (from ∷ es) k 0 ≤ get_or es k 0) × (get_or es k 0 ≤ length ns))
    → (get_or (at ∷ ends_kept from at ms es ++ rest) (alive ms) 0 ≡ at + length (names_kept from ms es ns)) × (length (ends_kept from at ms es) ≡ alive ms)
    × (from + length (names_kept from ms es ns) ≤ get_or (from ∷ es) (length ms) 0)
unfolding ends_kept names_kept alive
last_by from at [] es ns rest l r = (omega arith, refl, omega arith)
last_by from at (m ∷ ms) [] ns rest l r = absurd (not-suc-le-zero l)
last_by from at (m ∷ ms) (e ∷ es) ns rest l r = by (ltb 0 m) (λ a. last_by e a ms es ns rest (omega arith) (λ k h. r (suc k) (omega arith)))
  where
    up : from ≤ e
    up = (r 0 (omega arith)).0

    long : length (take (e - from) (drop from ns)) ≡ e - from
    long = length-take-le (e - from) (drop from ns) (let d = length-drop from ns in let i = (r 0 (omega arith)).1 in let u = up in omega arith)

    by : (b : Bool)
        → ((a : ℕ) → (get_or (a ∷ ends_kept e a ms es ++ rest) (alive ms) 0 ≡ a + length (names_kept e ms es ns)) × (length (ends_kept e a ms es) ≡ alive ms)
        × (e + length (names_kept e ms es ns) ≤ get_or (e ∷ es) (length ms) 0))
        → (get_or (at ∷ pick b ((at + (e - from)) ∷ ends_kept e (at + (e - from)) ms es) (ends_kept e at ms es) ++ rest) (pick b 1 0 + alive ms) 0
        ≡ at + length (pick b (take (e - from) (drop from ns) ++ names_kept e ms es ns) (names_kept e ms es ns)))
        × (length (pick b ((at + (e - from)) ∷ ends_kept e (at + (e - from)) ms es) (ends_kept e at ms es)) ≡ pick b 1 0 + alive ms)
        × (from + length (pick b (take (e - from) (drop from ns) ++ names_kept e ms es ns) (names_kept e ms es ns)) ≤ get_or (e ∷ es) (length ms) 0)
    by true f =
        let n : 1 + alive ms ≡ suc (alive ms) = omega arith in
        let i = f (at + (e - from)) in
        let d = length-append (take (e - from) (drop from ns)) (names_kept e ms es ns) in
        let u = up in
        let g = long in
        (rw n (i.0 ∙ (omega arith)), (let j = i.1 in omega arith), (let j = i.2 in omega arith))
    by false f =
        let n : 0 + alive ms ≡ alive ms = omega arith in
        let i = f at in
        let u = up in
        (rw n i.0, (let j = i.1 in omega arith), (let j = i.2 in omega arith))

kept_short : (f : ℕ → ℕ) (ms xs : List ℕ) → length (kept_by f ms xs) ≤ length xs
unfolding kept_by
kept_short f [] xs = omega arith
kept_short f (m ∷ ms) [] = omega arith
kept_short f (m ∷ ms) (x ∷ xs) = by (ltb 0 m) (kept_short f ms xs)
  where
    by : (b : Bool) → length (kept_by f ms xs) ≤ length xs → length (pick b (f x ∷ kept_by f ms xs) (kept_by f ms xs)) ≤ suc (length xs)
    by true h = omega arith
    by false h = omega arith

module _ {t : Table} (fit : Fit t) where
  pub last_of : (get_or (0 ∷ ends_kept 0 0 (flags t) t.ends ++ drop (length (ends_kept 0 0 (flags t) t.ends)) t.ends) (alive (flags t)) 0 ≡ 0 + length (live_names t))
      × (length (ends_kept 0 0 (flags t) t.ends) ≡ alive (flags t)) × (0 + length (live_names t) ≤ start_of t.ends (length (flags t)))
  last_of =
      let n = flags_long fit in
      let few = fit.few in
      let long = fit.ended in
      last_by 0 0 (flags t) t.ends t.names (drop (length (ends_kept 0 0 (flags t) t.ends)) t.ends) (omega arith) (λ k h. (fit.spaced.risen.rises k (omega arith), fit.spaced.inside k (omega arith)))

  pub last_end_is : last_end (collected t) ≡ length (live_names t)
  unfolding ahead
  last_end_is = let l = last_of.0 in l ∙ (omega arith)

  -- the live names are no longer than all
  pub live_short : length (live_names t) ≤ last_end t
  live_short = let l = last_of.2 in let n = flags_long fit in let q : start_of t.ends (length (flags t)) ≡ last_end t = ap (λ (k : ℕ). start_of t.ends k) n in omega arith

  pub last_inside : last_end t ≤ length t.names
  last_inside = start_inside fit.spaced t.count (omega arith)

  -- ── the tests ──

  pub tight_full : t.count ≡ 1024 → (size : ℕ) → true ≡ tight t size
  unfolding tight
  tight_full h size = rw (eq-eqb t.count 1024 h)

  pub tight_names : (t.count ≡ 1024 → ⊥) → (size : ℕ) → ltb (length t.names - last_end t) size ≡ tight t size
  unfolding tight
  tight_names h size = rw (ne_eqb t.count 1024 h)

  -- ── the table that the object is put into ──

  pub based_tight : (size : ℕ) → tight t size ≡ true → {old : List ℕ} {n : ℕ} {hs ps es ms ns new : List ℕ} → Gathered t old n hs ps es ms ns new → Based t size old n hs ps es ms ns new
  based_tight size e g = record {
    count = rw e g.count;
    handles = rw e g.handles;
    parents = rw e g.parents;
    ends = rw e g.ends;
    marks = rw e g.marks;
    names = rw e g.names;
    news = rw e g.news;
  }

  pub based_own : (size : ℕ) → tight t size ≡ false → {old new : List ℕ} {n : ℕ} → Fronted (up_from 0 t.count) old new n → Based t size old n t.handles t.parents t.ends t.marks t.names new
  based_own size e f = record {
    count = rw e (let s = f.size in let l = up_long 0 t.count in omega arith);
    handles = rw e;
    parents = rw e;
    ends = rw e;
    marks = rw e;
    names = rw e;
    news = rw e f.list;
  }

  places_in : (size : ℕ) → length (new_places t size) ≡ t.count
  places_in size = by (tight t size)
    where
      by : (b : Bool) → length (pick b (places t) (up_from 0 t.count)) ≡ t.count
      by true = places_long 0 (flags t) ∙ flags_long fit
      by false = up_long 0 t.count

  -- the parent's new place
  pub parent_new : (size : ℕ) (old : List ℕ) {new : List ℕ} → new ≡ ahead (new_places t size) old → (p : ℕ) → p < t.count → get_or new p 0 ≡ get_or (new_places t size) p 0
  parent_new size old e p h = let l = places_in size in ap (λ (x : List ℕ). get_or x p 0) e ∙ ahead_at (new_places t size) old p (omega arith)

  pub news_long : (size : ℕ) (old : List ℕ) {new : List ℕ} → new ≡ ahead (new_places t size) old → t.count ≤ length old → length new ≡ length old
  news_long size old e h = let l = places_in size in ap length e ∙ ahead_long (new_places t size) old (omega arith)

  -- ── room ──

  named_short : length (live_names t) ≤ length t.names
  named_short = let a = live_short in let b = last_inside in omega arith

  room_tight : (size : ℕ) → (alive (flags t) ≡ 1024 → ⊥) → size ≤ length t.names - length (live_names t) → last_end t ≤ 523264 → size ≤ 511 → Room (collected t) size
  room_tight size a b c d =
      let l = last_end_is in
      let s = live_short in
      let i = alive_in fit in
      let f = fit.few in
      let n = named_short in
      let k = last_of.1 in
      let g = fit.ended in
      let m = fit.flagged in
      let p = fit.parented in
      let h = fit.handled in
      let w = ahead_long (live_names t) t.names n in
      let r = length-replicate {A = ℕ} (alive (flags t)) 1 in
      record {
        free = omega arith;
        handled = ahead_long (kept_by (λ h. h) (flags t) t.handles) t.handles (kept_short (λ h. h) (flags t) t.handles) ∙ h;
        parented = ahead_long (kept_by (λ q. get_or (places t) q 0) (flags t) t.parents) t.parents (kept_short (λ q. get_or (places t) q 0) (flags t) t.parents) ∙ p;
        ended = ahead_long (ends_kept 0 0 (flags t) t.ends) t.ends (omega arith) ∙ g;
        flagged = ahead_long (replicate (alive (flags t)) 1) t.marks (omega arith) ∙ m;
        holds = omega arith;
        short = omega arith;
      }

  room_own : (size : ℕ) → tight t size ≡ false → last_end t ≤ 523264 → size ≤ 511 → Room t size
  unfolding tight
  room_own size e c d =
      let i = last_inside in
      let f = fit.few in
      let o = neither (eqb t.count 1024) (ltb (length t.names - last_end t) size) e in
      let full = eqb-false t.count 1024 o.0 in
      let no = ltb-false (length t.names - last_end t) size o.1 in
      record {
        free = below t.count f full;
        handled = fit.handled;
        parented = fit.parented;
        ended = fit.ended;
        flagged = fit.flagged;
        holds = omega arith;
        short = omega arith;
      }
    where
      neither : (x y : Bool) → (x || y) ≡ false → (x ≡ false) × (y ≡ false)
      neither true y e = zero_one (cc)
      neither false y e = (refl, e)

      below : (n : ℕ) → n ≤ 1024 → (n ≡ 1024 → ⊥) → n < 1024
      below n h g = omega arith

  pub room_of : (size : ℕ) → (alive (flags t) ≡ 1024 → ⊥) → size ≤ length t.names - length (live_names t) → last_end t ≤ 523264 → size ≤ 511 → Room (base t size) size
  room_of size a b c d = by (tight t size) refl
    where
      by : (x : Bool) → tight t size ≡ x → Room (pick x (collected t) t) size
      by true e = room_tight size a b c d
      by false e = room_own size e c d
