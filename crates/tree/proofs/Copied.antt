-- Bytes put again farther on: what lies before the place is as it was, so each byte read is the one that is owed.
-- Assumes nothing.
use mathlib.Core.Path.{◌≡◌, refl, sym, ap, subst, ◌∙◌}
use mathlib.Core.List.{List}
use Prim.Native.Nat.{ℕ, ◌+◌, ◌-◌, ◌≤◌, ◌<◌}
use native.Mathlib.Numerals.{add-one}
use native.Mathlib.Omega.{arith}
use lib.ListN.{length, get_or, take, drop, set, length-drop, drop_of_length-le}
use lib.Seq.{take-take, length-take-le, drop-cons, get_or-take, get_or-drop, take-set-le}
use Rattle.layout.specs.Written.{Put}
use Rattle.layout.proofs.laws.Reading.{drop_take}
use Rattle.layout.proofs.laws.Writing.{Owes, start, byte, end}

-- a part that ends before o is a part of the first o
pub within_front : (o a n : ℕ) (l : List ℕ) → a + n ≤ o → take n (drop a l) ≡ take n (drop a (take o l))
within_front o a n l h =
    let z : o ≡ a + (o - a) = omega arith in
    sym (ap (take n) (ap (λ (x : ℕ). drop a (take x l)) z ∙ drop_take a (o - a) l) ∙ take-take n (o - a) (drop a l) (omega arith))

pub record Copying (from n o : ℕ) (out₀ out : List ℕ) (i : ℕ) : Type 0 where
  pub front : take o out ≡ take o out₀
  pub owes : Owes out (o + i) (drop i (take n (drop from out₀))) out₀ o (take n (drop from out₀))
  pub within : i ≤ n

module _ (from n o : ℕ) (out₀ : List ℕ) (a : from + n ≤ o) (b : o + n ≤ length out₀) where
  long_source : length (take n (drop from out₀)) ≡ n
  long_source = length-take-le n (drop from out₀) (let l = length-drop from out₀ in omega arith)

  pub begun : Copying from n o out₀ out₀ 0
  begun = record { front = refl; owes = let z : o ≡ o + 0 = omega arith in subst (λ (k : ℕ). Owes out₀ k (take n (drop from out₀)) out₀ o (take n (drop from out₀))) z start; within = omega arith }

  module _ {out : List ℕ} {i : ℕ} (c : Copying from n o out₀ out i) where
    reads : i < n → get_or (take n (drop from out₀)) i 0 ≡ get_or out (from + i) 0
    reads h =
        get_or-take n (drop from out₀) i 0 h ∙ get_or-drop from out₀ i 0
        ∙ sym (get_or-take o out₀ (from + i) 0 (omega arith)) ∙ ap (λ (l : List ℕ). get_or l (from + i) 0) (sym c.front) ∙ get_or-take o out (from + i) 0 (omega arith)

    pub one_more : i < n → Copying from n o out₀ (set out (o + i) (get_or out (from + i) 0)) (i + 1)
    one_more h =
        let l = long_source in
        let e = drop-cons (take n (drop from out₀)) i 0 (omega arith) in
        let w = byte e c.owes in
        let s : set out (o + i) (get_or (take n (drop from out₀)) i 0) ≡ set out (o + i) (get_or out (from + i) 0) = ap (set out (o + i)) (reads h) in
        let k : (o + i) + 1 ≡ o + (i + 1) = omega arith in
        record {
          front = take-set-le o out (o + i) (get_or out (from + i) 0) (omega arith) ∙ c.front;
          owes = rw (← s, ← k, add-one i) w;
          within = omega arith;
        }

    pub all : n ≤ i → Put out₀ o (take n (drop from out₀)) out (o + i)
    all h = let l = long_source in let past : length (take n (drop from out₀)) ≤ i = omega arith in end (drop_of_length-le (take n (drop from out₀)) past) c.owes
