-- What is left of a window: bounds that are cut to the window give the same part, and that part copied to the front is what is kept.
-- Assumes nothing.
use Rattle.std.proofs.Common.{◌≡◌, ℕ, ◌-◌, ◌<◌, ◌≤◌, Bool, true, false, leb, leb-true, leb-false, List, length, take, drop, refl, sym, ap, ◌∙◌, arith, length-drop, length-take-le, min, zero-add}
use Rattle.std.proofs.lemmas.List.{take_min}
use Rattle.std.specs.List.{copy_within}
use Rattle.turns.specs.Held.{rest, Kept}

module _ (w : List ℕ) (from held end start : ℕ) (e : end ≡ min held (length w)) (f : start ≡ min from end) where
  -- a part that begins past its end is empty wherever it is said to begin
  begun : take (end - start) (drop start w) ≡ take (end - from) (drop from w)
  begun = go (leb from end) refl
    where
      go : (b : Bool) → leb from end ≡ b → take (end - start) (drop start w) ≡ take (end - from) (drop from w)
      go true h = let same : start ≡ from = omega (arith, leb-true from end h) in rw same
      go false h =
          let z : end - start ≡ 0 = omega (arith, leb-false from end h) in
          let y : end - from ≡ 0 = omega (arith, leb-false from end h) in
          rw (z, y)

  pub part_is : take (end - start) (drop start w) ≡ rest w from held
  unfolding rest
  part_is =
      let n : end - from ≡ min (held - from) (length (drop from w)) = rw length-drop (omega arith) in
      begun ∙ (rw n (take_min (held - from) (drop from w)))

  pub kept_is : Kept w from held (end - start) (copy_within w start end 0)
  kept_is =
      let n : end - start ≡ length (rest w from held) = rw (← part_is) (sym (length-take-le (end - start) (drop start w) (rw length-drop (omega arith)))) in
      record { count = n; leaves = rw (zero-add, part_is, ← n) }
