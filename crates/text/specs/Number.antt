-- A number in decimal.
-- Assumes nothing.
use Rattle.std.specs.Prelude.{List, ℕ, zero, suc, ◌/◌, ltb}
use Rattle.io.specs.Digits.{last_digits}
use Rattle.layout.specs.Answer.{pick}

-- how many decimal digits a number has, in at most `fuel` divisions by ten
unfoldable pub digits_of : ℕ → ℕ → ℕ
digits_of zero n = 1
digits_of (suc fuel) n = pick (ltb n 10) 1 (suc (digits_of fuel (n / 10)))

unfoldable pub decimal : ℕ → List ℕ
decimal n = last_digits 10 (digits_of n n) n
