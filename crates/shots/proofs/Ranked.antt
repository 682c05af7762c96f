-- Where live objects go: each to the place that counts the live ones before it. What is kept of a list stands there, and so do the bytes of its name.
-- Assumes nothing.
use mathlib.Core.Path.{◌≡◌, refl, sym, ap, ◌∙◌}
use mathlib.Core.Bool.{Bool, true, false}
use mathlib.Core.List.{List, [], ◌∷◌, ◌++◌, append_assoc}
use Prim.Native.Nat.{ℕ, zero, suc, ◌+◌, ◌-◌, ◌≤◌, ◌<◌}
use native.Mathlib.Nat.{not-suc-le-zero, le_refl}
use native.Mathlib.Omega.{arith}
use lib.Dec.{ltb}
use lib.ListN.{length, get_or, take, drop, length-append, length-drop}
use lib.Seq.{take_all, take-append-le, drop-append_seam, length-take-le}
use Rattle.layout.specs.Answer.{pick}
use Rattle.layout.specs.Written.{spelling}
use Rattle.layout.proofs.laws.Numbers.{zero_one}
use Rattle.wire.specs.Utf8.{utf8_at}
use Rattle.tree.specs.Path.{name_of}
use Rattle.tree.specs.Table.{live, name_bytes}
use Rattle.tree.proofs.laws.Counts.{equal}
use Rattle.tree.proofs.laws.Sound.{marked_there}
use Rattle.shots.specs.Collected.{alive, places_from, kept_by, ends_kept, names_kept}

-- ── places ──

pub place_of : (n : ℕ) (ms : List ℕ) (k : ℕ) → live ms k ≡ true → get_or (places_from n ms) k 0 ≡ n + alive (take k ms)
unfolding places_from alive
place_of n [] k e = zero_one (cc)
place_of n (m ∷ ms) zero e = rw e (omega arith)
place_of n (m ∷ ms) (suc k) e = let h = place_of (n + pick (ltb 0 m) 1 0) ms k e in omega arith

pub rank_rises : (ms : List ℕ) (a b : ℕ) → live ms a ≡ true → a < b → alive (take a ms) < alive (take b ms)
unfolding alive
rank_rises [] a b e h = zero_one (cc)
rank_rises (m ∷ ms) zero zero e h = absurd (not-suc-le-zero h)
rank_rises (m ∷ ms) zero (suc b) e h = rw e (omega arith)
rank_rises (m ∷ ms) (suc a) zero e h = absurd (not-suc-le-zero h)
rank_rises (m ∷ ms) (suc a) (suc b) e h = let r = rank_rises ms a b e (omega arith) in omega arith

pub rank_below : (ms : List ℕ) (k : ℕ) → live ms k ≡ true → alive (take k ms) < alive ms
rank_below ms k e = rw (take_all (length ms) ms (le_refl (length ms))) at (rank_rises ms k (length ms) e (marked_there ms k e))

-- and no place between them is left out
pub rank_covers : (ms : List ℕ) (j : ℕ) → j < alive ms → (k : ℕ) × (live ms k ≡ true) × (alive (take k ms) ≡ j)
unfolding alive
rank_covers [] j h = absurd (not-suc-le-zero h)
rank_covers (m ∷ ms) j h = by (ltb 0 m) refl h (rank_covers ms)
  where
    by : (b : Bool) → ltb 0 m ≡ b → j < pick b 1 0 + alive ms → ((i : ℕ) → i < alive ms → (k : ℕ) × (live ms k ≡ true) × (alive (take k ms) ≡ i))
        → (k : ℕ) × (live (m ∷ ms) k ≡ true) × (alive (take k (m ∷ ms)) ≡ j)
    by true e h f = equal j 0 (λ z. (0, e, sym z)) (λ z. let c = f (j - 1) (omega arith) in (suc c.0, c.1, rw e (omega (arith, c.2))))
    by false e h f = let c = f j (omega arith) in (suc c.0, c.1, rw e (omega (arith, c.2)))

-- only the first has none before it
pub rank_above : (ms : List ℕ) (k : ℕ) → 0 < alive (take k ms) → 0 < k
unfolding alive
rank_above ms zero h = absurd (not-suc-le-zero h)
rank_above ms (suc k) h = omega arith

-- ── lists ──

pub kept_at : (f : ℕ → ℕ) (ms xs : List ℕ) (k : ℕ) → live ms k ≡ true → k < length xs → get_or (kept_by f ms xs) (alive (take k ms)) 0 ≡ f (get_or xs k 0)
unfolding kept_by alive
kept_at f [] xs k e h = zero_one (cc)
kept_at f (m ∷ ms) [] k e h = absurd (not-suc-le-zero h)
kept_at f (m ∷ ms) (x ∷ xs) zero e h = rw e
kept_at f (m ∷ ms) (x ∷ xs) (suc k) e h = by (ltb 0 m) (kept_at f ms xs k e (omega arith))
  where
    by : (b : Bool) → get_or (kept_by f ms xs) (alive (take k ms)) 0 ≡ f (get_or xs k 0) → get_or (pick b (f x ∷ kept_by f ms xs) (kept_by f ms xs)) (pick b 1 0 + alive (take k ms)) 0 ≡ f (get_or xs k 0)
    by true i = let n : 1 + alive (take k ms) ≡ suc (alive (take k ms)) = omega arith in rw n i
    by false i = let n : 0 + alive (take k ms) ≡ alive (take k ms) = omega arith in rw n i

pub kept_long : (f : ℕ → ℕ) (ms xs : List ℕ) → length ms ≤ length xs → length (kept_by f ms xs) ≡ alive ms
unfolding kept_by alive
kept_long f [] xs h = refl
kept_long f (m ∷ ms) [] h = absurd (not-suc-le-zero h)
kept_long f (m ∷ ms) (x ∷ xs) h = by (ltb 0 m) (kept_long f ms xs (omega arith))
  where
    by : (b : Bool) → length (kept_by f ms xs) ≡ alive ms → length (pick b (f x ∷ kept_by f ms xs) (kept_by f ms xs)) ≡ pick b 1 0 + alive ms
    by true i = omega arith
    by false i = omega arith

-- ── names ──

-- a piece in the middle
amid : (front piece more rest : List ℕ) (at n : ℕ) → at ≡ length front → n ≡ length piece → take (at + n - at) (drop at (front ++ ((piece ++ more) ++ rest))) ≡ piece
amid front piece more rest at n e f =
    let size : length front + n - length front ≡ length piece = omega arith in
    let l = length-append piece more in
    rw (e, drop-append_seam front ((piece ++ more) ++ rest)) (
    ap (λ (i : ℕ). take i ((piece ++ more) ++ rest)) size
    ∙ take-append-le (length piece) (piece ++ more) rest (omega arith) ∙ take-append-le (length piece) piece more (le_refl (length piece)) ∙ take_all (length piece) piece (le_refl (length piece))
    )

-- the first of es is the end of the name that starts at `from`, and the live names are put behind `front`
pub record NameKept (ms es ns rest front : List ℕ) (from at k : ℕ) : Type 0 where
  pub bytes : take (get_or (ends_kept from at ms es) (alive (take k ms)) 0 - get_or (at ∷ ends_kept from at ms es) (alive (take k ms)) 0)
      (drop (get_or (at ∷ ends_kept from at ms es) (alive (take k ms)) 0) (front ++ (names_kept from ms es ns ++ rest)))
      ≡ take (get_or es k 0 - get_or (from ∷ es) k 0) (drop (get_or (from ∷ es) k 0) ns)
  pub rises : get_or (at ∷ ends_kept from at ms es) (alive (take k ms)) 0 ≤ get_or (ends_kept from at ms es) (alive (take k ms)) 0
  pub within : get_or (ends_kept from at ms es) (alive (take k ms)) 0 ≤ at + length (names_kept from ms es ns)

pub name_kept : (ms es ns rest front : List ℕ) (from at k : ℕ) → at ≡ length front → length ms ≤ length es
    → ((j : ℕ) → j < length ms → (get_or (from ∷ es) j 0 ≤ get_or es j 0) × (get_or es j 0 ≤ length ns)) → live ms k ≡ true → NameKept ms es ns rest front from at k
unfolding ends_kept names_kept alive
name_kept [] es ns rest front from at k a l r e = zero_one (cc)
name_kept (m ∷ ms) [] ns rest front from at k a l r e = absurd (not-suc-le-zero l)
name_kept (m ∷ ms) (x ∷ es) ns rest front from at zero a l r e =
    let up = r 0 (omega arith) in
    let long = length-take-le (x - from) (drop from ns) (omega (arith, length-drop from ns, up.0, up.1)) in
    let both = length-append (take (x - from) (drop from ns)) (names_kept x ms es ns) in
    record {
      bytes = rw e (amid front (take (x - from) (drop from ns)) (names_kept x ms es ns) rest at (x - from) a (sym long));
      rises = rw e (omega arith);
      within = rw e (omega arith);
    }
name_kept (m ∷ ms) (x ∷ es) ns rest front from at (suc k) a l r e = by (ltb 0 m) refl
    (name_kept ms es ns rest (front ++ take (x - from) (drop from ns)) x (at + (x - from)) k (omega (arith, length-append front (take (x - from) (drop from ns)), long)) (omega arith) (λ j h. r (suc j) (omega arith)) e)
    (name_kept ms es ns rest front x at k a (omega arith) (λ j h. r (suc j) (omega arith)) e)
  where
    long : length (take (x - from) (drop from ns)) ≡ x - from
    long = let up = r 0 (omega arith) in length-take-le (x - from) (drop from ns) (omega (arith, length-drop from ns, up.0, up.1))

    by : (b : Bool) → ltb 0 m ≡ b → NameKept ms es ns rest (front ++ take (x - from) (drop from ns)) x (at + (x - from)) k → NameKept ms es ns rest front x at k
        → NameKept (m ∷ ms) (x ∷ es) ns rest front from at (suc k)
    by true q i o =
        let n : 1 + alive (take k ms) ≡ suc (alive (take k ms)) = omega arith in
        let piece = take (x - from) (drop from ns) in
        let more = names_kept x ms es ns in
        let z : front ++ ((piece ++ more) ++ rest) ≡ (front ++ piece) ++ (more ++ rest) = ap (λ (w : List ℕ). front ++ w) (append_assoc piece more rest) ∙ sym (append_assoc front piece (more ++ rest)) in
        record {
          bytes = rw (q, n, z) i.bytes;
          rises = rw (q, n) i.rises;
          within = rw (q, n) (omega (arith, i.within, length-append piece more, long));
        }
    by false q i o =
        let n : 0 + alive (take k ms) ≡ alive (take k ms) = omega arith in
        record { bytes = rw (q, n) o.bytes; rises = rw (q, n) o.rises; within = rw (q, n) o.within }

-- names of the same bytes are the same
pub same_spelling : (es ns es' ns' : List ℕ) (j k : ℕ) → name_bytes es' ns' j ≡ name_bytes es ns k → name_of es' ns' j ≡ name_of es ns k
unfolding name_of
same_spelling es ns es' ns' j k e = ap (λ (b : List ℕ). spelling (utf8_at b 0)) e
