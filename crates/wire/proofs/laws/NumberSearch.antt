-- One of a row of numbers: that it is sought among those that stand there; and that their bytes can be counted.
-- Assumes nothing.
use mathlib.Core.Path.{◌≡◌, refl}
use mathlib.Core.Bool.{true}
use mathlib.Core.List.{List}
use Prim.Native.Nat.{ℕ, zero, suc, ◌-◌, ◌*◌, ◌^◌, ◌≤◌, ◌<◌}
use native.Mathlib.Nat.{suc-mul, zero-mul}
use native.Mathlib.Omega.{arith}
use borrow.Author.Tests.{le-leb}
use lib.ListN.{length, drop}
use Rattle.layout.specs.Bytes.{cells}
use Rattle.wire.specs.Numbers.{Plain, one_byte, two_bytes, four_bytes, eight_bytes, is_plain, is_in, has_number}

is-plain : {w : ℕ} → Plain w → is_plain w ≡ true
is-plain one_byte = refl
is-plain two_bytes = refl
is-plain four_bytes = refl
is-plain eight_bytes = refl

-- of numbers that are all there
pub has-number : {w : ℕ} → Plain w → (n : ℕ) (s : List ℕ) (at x : ℕ) → n * w ≤ length s - at → has_number w n s at x ≡ is_in x (cells w n (drop at s))
unfolding has_number
has-number p n s at x h = rw (is-plain p, le-leb _ _ h)

eight_times : (n w : ℕ) → w ≤ 8 → n * w ≤ 8 * n
eight_times zero w k = omega (arith, zero-mul w)
eight_times (suc n) w k = omega (arith, suc-mul n w, eight_times n w k)

pub times_small : (n w : ℕ) → n < 65536 → w ≤ 8 → n * w < 2 ^ 64
times_small n w h k = omega (arith, eight_times n w k)
