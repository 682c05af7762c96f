-- Collecting: the loops. What stands at and behind the place that is read is as it was, so each entry that is owed is the one that is read.
-- Assumes nothing.
use mathlib.Core.Path.{◌≡◌, refl, sym, ap, ◌∙◌}
use mathlib.Core.Bool.{true, false}
use mathlib.Core.List.{List, [], ◌∷◌}
use Prim.Native.Nat.{ℕ, zero, suc, ◌+◌, ◌-◌, ◌≤◌, ◌<◌}
use native.Mathlib.Nat.{add-zero}
use native.Mathlib.Numerals.{add-one}
use native.Mathlib.Omega.{arith}
use lib.Dec.{ltb}
use lib.ListN.{length, get_or, take, drop, set, length-drop, drop_of_length-le}
use lib.Seq.{sets, drop-cons, drop-drop, drop-set-lt, get_or-take, get_or-drop, length-take-le}
use Rattle.layout.specs.Written.{put, Put}
use Rattle.layout.proofs.laws.Writing.{Owes, byte, part, end, put_front}
use Rattle.tree.specs.Table.{start_of, end_of}
use Rattle.shots.specs.Facts.{Fronted, Spaced}
use Rattle.shots.specs.Collected.{ahead, GONE, alive, places_from, kept_by, ends_kept, names_kept}

-- ── what is not yet read ──

reads : (k : ℕ) (now old : List ℕ) → drop k now ≡ drop k old → get_or now k 0 ≡ get_or old k 0
reads k now old e =
    let z : k + 0 ≡ k = add-zero k in
    ap (λ (i : ℕ). get_or now i 0) (sym z) ∙ sym (get_or-drop k now 0 0) ∙ ap (λ (l : List ℕ). get_or l 0 0) e ∙ get_or-drop k old 0 0 ∙ ap (λ (i : ℕ). get_or old i 0) z

farther : (k m : ℕ) (now old : List ℕ) → drop k now ≡ drop k old → k ≤ m → drop m now ≡ drop m old
farther k m now old e h =
    let z : k + (m - k) ≡ m = omega arith in
    ap (λ (i : ℕ). drop i now) (sym z) ∙ sym (drop-drop (m - k) k now) ∙ ap (drop (m - k)) e ∙ drop-drop (m - k) k old ∙ ap (λ (i : ℕ). drop i old) z

drop_sets : (vs l : List ℕ) (i n : ℕ) → i + length vs ≤ n → drop n (sets l i vs) ≡ drop n l
drop_sets [] l i n h = refl
drop_sets (v ∷ vs) l i n h = drop_sets vs (set l i v) (suc i) n (omega arith) ∙ drop-set-lt n l i v (omega arith)

pub drop_put : {old bs new : List ℕ} {at next : ℕ} (n : ℕ) → Put old at bs new next → at + length bs ≤ n → drop n new ≡ drop n old
unfolding put
drop_put {old} {bs} {new} {at} n p h = ap (drop n) p.bytes ∙ drop_sets bs old at n h

-- what was put at the front stands there
pub fronted : {old bs new : List ℕ} {n : ℕ} → Put old 0 bs new n → n ≤ length old → Fronted bs old new n
unfolding ahead
fronted {old} {bs} {new} {n} p h =
    let z = p.place in
    record { list = p.bytes ∙ put_front old bs (omega arith); size = omega arith; room = h }

-- ── entries, each by itself ──

pub record Moving (f : ℕ → ℕ) (ms old now : List ℕ) (n k : ℕ) : Type 0 where
  pub owes : Owes now n (kept_by f (drop k ms) (drop k old)) old 0 (kept_by f ms old)
  pub rest : drop k now ≡ drop k old
  pub behind : n ≤ k
  pub within : k ≤ length ms

module _ {f : ℕ → ℕ} {ms old now : List ℕ} {n k : ℕ} (v : Moving f ms old now n k) (fits : length ms ≤ length old) where
  pub moving_reads : get_or now k 0 ≡ get_or old k 0
  moving_reads = reads k now old v.rest

  module _ (h : k < length ms) where
    pub moving_hit : ltb 0 (get_or ms k 0) ≡ true → Moving f ms old (set now n (f (get_or now k 0))) (n + 1) (k + 1)
    unfolding kept_by
    moving_hit e = record {
      owes = byte (rw (add-one, drop-cons ms k 0, drop-cons old k 0 (omega arith), e, reads k now old v.rest)) v.owes;
      rest = drop-set-lt (k + 1) now n (f (get_or now k 0)) (let b = v.behind in omega arith) ∙ farther k (k + 1) now old v.rest (omega arith);
      behind = let b = v.behind in omega arith;
      within = omega arith;
    }

    pub moving_skip : ltb 0 (get_or ms k 0) ≡ false → Moving f ms old now n (k + 1)
    unfolding kept_by
    moving_skip e =
        let q : kept_by f (drop k ms) (drop k old) ≡ kept_by f (drop (k + 1) ms) (drop (k + 1) old) = rw (add-one k, drop-cons ms k 0, drop-cons old k 0 (omega arith), e) in
        record {
          owes = rw q at v.owes;
          rest = farther k (k + 1) now old v.rest (omega arith);
          behind = let b = v.behind in omega arith;
          within = omega arith;
        }

  pub moving_end : length ms ≤ k → Fronted (kept_by f ms old) old now n
  unfolding kept_by
  moving_end h = let b = v.behind in let w = v.within in fronted (end (rw (drop_of_length-le ms h)) v.owes) (omega arith)

-- ── the new places ──

pub record Numbering (ms old now : List ℕ) (n k : ℕ) : Type 0 where
  pub owes : Owes now k (places_from n (drop k ms)) old 0 (places_from 0 ms)
  pub counts : n + alive (drop k ms) ≡ alive ms
  pub behind : n ≤ k
  pub within : k ≤ length ms

module _ {ms old now : List ℕ} {n k : ℕ} (v : Numbering ms old now n k) (h : k < length ms) where
  pub numbering_hit : ltb 0 (get_or ms k 0) ≡ true → Numbering ms old (set now k n) (n + 1) (k + 1)
  unfolding places_from alive
  numbering_hit e = record {
    owes = byte (rw (add-one k, drop-cons ms k 0, e)) v.owes;
    counts = let c : n + alive (get_or ms k 0 ∷ drop (suc k) ms) ≡ alive ms = rw (drop-cons ms k 0 h) at v.counts in let d : n + (1 + alive (drop (suc k) ms)) ≡ alive ms = rw e at c in rw (add-one k) (omega arith);
    behind = let b = v.behind in omega arith;
    within = omega arith;
  }

  pub numbering_skip : ltb 0 (get_or ms k 0) ≡ false → Numbering ms old (set now k GONE) n (k + 1)
  unfolding places_from alive
  numbering_skip e = record {
    owes = byte (rw (add-one k, drop-cons ms k 0, e, add-zero n)) v.owes;
    counts = let c : n + alive (get_or ms k 0 ∷ drop (suc k) ms) ≡ alive ms = rw (drop-cons ms k 0 h) at v.counts in let d : n + (0 + alive (drop (suc k) ms)) ≡ alive ms = rw e at c in rw (add-one k) (omega arith);
    behind = let b = v.behind in omega arith;
    within = omega arith;
  }

pub numbering_end : {ms old now : List ℕ} {n k : ℕ} → Numbering ms old now n k → length ms ≤ length old → length ms ≤ k → (n ≡ alive ms) × Fronted (places_from 0 ms) old now (length ms)
unfolding places_from alive
numbering_end {ms} {old} {now} {n} {k} v f h =
    let w = v.within in
    let z : n + alive [] ≡ alive ms = rw (drop_of_length-le ms h) at v.counts in
    let p = end (rw (drop_of_length-le ms h)) v.owes in
    (omega arith, fronted (record { bytes = p.bytes; place = let q = p.place in omega arith }) f)

-- ── the ends ──

pub record Bounding (ms old now : List ℕ) (n at from k : ℕ) : Type 0 where
  pub owes : Owes now n (ends_kept from at (drop k ms) (drop k old)) old 0 (ends_kept 0 0 ms old)
  pub rest : drop k now ≡ drop k old
  pub behind : n ≤ k
  pub shrinks : at ≤ from
  pub begins : from ≡ start_of old k
  pub within : k ≤ length ms

module _ {ms old now : List ℕ} {n at from k : ℕ} (v : Bounding ms old now n at from k) (fits : length ms ≤ length old) where
  pub bounding_reads : get_or now k 0 ≡ get_or old k 0
  bounding_reads = reads k now old v.rest

  module _ (h : k < length ms) (up : start_of old k ≤ end_of old k) where
    pub bounding_hit : ltb 0 (get_or ms k 0) ≡ true → Bounding ms old (set now n (at + (get_or now k 0 - from))) (n + 1) (at + (get_or now k 0 - from)) (get_or now k 0) (k + 1)
    unfolding ends_kept
    bounding_hit e = record {
      owes = rw (reads k now old v.rest) (byte (rw (add-one, drop-cons ms k 0, drop-cons old k 0 (omega arith), e)) v.owes);
      rest = drop-set-lt (k + 1) now n (at + (get_or now k 0 - from)) (let b = v.behind in omega arith) ∙ farther k (k + 1) now old v.rest (omega arith);
      behind = let b = v.behind in omega arith;
      shrinks = let b = v.shrinks in let g = v.begins in let r = bounding_reads in omega arith;
      begins = rw add-one bounding_reads;
      within = omega arith;
    }

    pub bounding_skip : ltb 0 (get_or ms k 0) ≡ false → Bounding ms old now n at (get_or now k 0) (k + 1)
    unfolding ends_kept
    bounding_skip e =
        let q : ends_kept from at (drop k ms) (drop k old) ≡ ends_kept (get_or old k 0) at (drop (k + 1) ms) (drop (k + 1) old) = rw (add-one k, drop-cons ms k 0, drop-cons old k 0 (omega arith), e) in
        record {
          owes = rw (reads k now old v.rest) (rw q at v.owes);
          rest = farther k (k + 1) now old v.rest (omega arith);
          behind = let b = v.behind in omega arith;
          shrinks = let b = v.shrinks in let g = v.begins in let r = bounding_reads in omega arith;
          begins = rw add-one bounding_reads;
          within = omega arith;
        }

  pub bounding_end : length ms ≤ k → Fronted (ends_kept 0 0 ms old) old now n
  unfolding ends_kept
  bounding_end h = let b = v.behind in let w = v.within in fronted (end (rw (drop_of_length-le ms h)) v.owes) (omega arith)

-- ── the names ──

-- where a name starts is inside
pub start_inside : {n size : ℕ} {es : List ℕ} → Spaced n es size → (k : ℕ) → k ≤ n → start_of es k ≤ size
start_inside s zero h = omega arith
start_inside s (suc k) h = s.inside k (omega arith)

pub record Naming (ms es old now : List ℕ) (o from k : ℕ) : Type 0 where
  pub owes : Owes now o (names_kept from (drop k ms) (drop k es) old) old 0 (names_kept 0 ms es old)
  pub rest : drop from now ≡ drop from old
  pub behind : o ≤ from
  pub begins : from ≡ start_of es k
  pub within : k ≤ length ms

module _ {ms es old now : List ℕ} {o from k : ℕ} (v : Naming ms es old now o from k) (fits : length ms ≤ length es) where
  module _ (h : k < length ms) (up : start_of es k ≤ end_of es k) (in_it : end_of es k ≤ length old) where
    pub naming_hit : {new : List ℕ} {next : ℕ} → ltb 0 (get_or ms k 0) ≡ true → Put now o (take (get_or es k 0 - from) (drop from now)) new next → Naming ms es old new next (get_or es k 0) (k + 1)
    unfolding names_kept
    naming_hit {new} {next} e p =
        let b = v.behind in
        let g = v.begins in
        let s : take (get_or es k 0 - from) (drop from now) ≡ take (get_or es k 0 - from) (drop from old) = ap (take (get_or es k 0 - from)) v.rest in
        let d = ap length s in
        let long = length-take-le (get_or es k 0 - from) (drop from old) (let l = length-drop from old in omega arith) in
        let q = p.place in
        record {
          owes = part (rw (add-one, drop-cons ms k 0, drop-cons es k 0 (omega arith), e)) v.owes (rw s at p);
          rest = drop_put (get_or es k 0) p (omega arith) ∙ farther from (get_or es k 0) now old v.rest (omega arith);
          behind = omega arith;
          begins = rw add-one;
          within = omega arith;
        }

    pub naming_skip : ltb 0 (get_or ms k 0) ≡ false → Naming ms es old now o (get_or es k 0) (k + 1)
    unfolding names_kept
    naming_skip e =
        let b = v.behind in
        let g = v.begins in
        let q : names_kept from (drop k ms) (drop k es) old ≡ names_kept (get_or es k 0) (drop (k + 1) ms) (drop (k + 1) es) old = rw (add-one k, drop-cons ms k 0, drop-cons es k 0 (omega arith), e) in
        record {
          owes = rw q at v.owes;
          rest = farther from (get_or es k 0) now old v.rest (omega arith);
          behind = omega arith;
          begins = rw add-one;
          within = omega arith;
        }

  pub naming_end : Spaced (length ms) es (length old) → length ms ≤ k → Fronted (names_kept 0 ms es old) old now o
  unfolding names_kept
  naming_end s h = let b = v.behind in let g = v.begins in let i = start_inside s k v.within in fronted (end (rw (drop_of_length-le ms h)) v.owes) (omega arith)

-- ── bytes moved down ──

pub record Shifting (from n o : ℕ) (old now : List ℕ) (i : ℕ) : Type 0 where
  pub owes : Owes now (o + i) (drop i (take n (drop from old))) old o (take n (drop from old))
  pub rest : drop (from + i) now ≡ drop (from + i) old
  pub within : i ≤ n

module _ {from n o : ℕ} {old now : List ℕ} {i : ℕ} (v : Shifting from n o old now i) (down : o ≤ from) (room : from + n ≤ length old) where
  source : length (take n (drop from old)) ≡ n
  source = length-take-le n (drop from old) (let l = length-drop from old in omega arith)

  pub shifting_on : i < n → Shifting from n o old (set now (o + i) (get_or now (from + i) 0)) (i + 1)
  shifting_on h =
      let l = source in
      let r : get_or (take n (drop from old)) i 0 ≡ get_or now (from + i) 0 = get_or-take n (drop from old) i 0 h ∙ get_or-drop from old i 0 ∙ sym (reads (from + i) now old v.rest) in
      let w = byte (drop-cons (take n (drop from old)) i 0 (omega arith)) v.owes in
      let k : (o + i) + 1 ≡ o + (i + 1) = omega arith in
      let j : from + (i + 1) ≡ (from + i) + 1 = omega arith in
      record {
        owes = rw (← r, ← k, add-one i) w;
        rest = rw j (drop-set-lt ((from + i) + 1) now (o + i) (get_or now (from + i) 0) (omega arith) ∙ farther (from + i) ((from + i) + 1) now old v.rest (omega arith));
        within = omega arith;
      }

  pub shifting_end : n ≤ i → Put old o (take n (drop from old)) now (o + i)
  shifting_end h = let l = source in let past : length (take n (drop from old)) ≤ i = omega arith in end (drop_of_length-le (take n (drop from old)) past) v.owes
