-- Minus, as a word of 64 bits has it: what completes a number to a whole turn. And a refusal is below 0 as a signed word, whatever its place.
-- Assumes nothing.
use Rattle.std.proofs.Common.{◌≡◌, ℕ, ◌+◌, ◌-◌, ◌%◌, ◌^◌, ◌<◌, ◌≤◌, Bool, true, false, leb, refl, arith, lit≤, leb-true}
use Rattle.layout.specs.Answer.{Told, refused, pick}
use Rattle.abi.specs.Answered.{farthest, word}

pub minus : (r n : ℕ) → (r + n) % 2 ^ 64 ≡ 0 → r < 2 ^ 64 → n < 2 ^ 64 → r ≡ (2 ^ 64 - n) % 2 ^ 64
minus r n e h k = omega (arith, e, h, k)

pub far : (n : ℕ) → pick (leb n farthest) n farthest ≤ farthest
far n = go (leb n farthest) refl
  where
    go : (b : Bool) → leb n farthest ≡ b → pick b n farthest ≤ farthest
    go true e = leb-true n farthest e
    go false e = lit≤ tt

pub refusal_below : (A : Type 0) (t : Told) → 0 < t.no → t.no < 256 → 2 ^ 63 ≤ word {A = A} (refused t)
unfolding word
refusal_below A t h k = omega (arith, far t.at, h, k)
