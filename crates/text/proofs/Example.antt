-- Numbers and the line of a refusal as text, computed.
-- Assumes nothing.
use mathlib.Core.Path.{◌≡◌, refl}
use Rattle.layout.specs.Answer.{bare, end_at}
use Rattle.names.specs.Names.{spelled}
use Rattle.text.specs.Lines.{at_text, refusal_line}
use Rattle.text.specs.Number.{digits_of, decimal}

pub numbers_spelled : (decimal 0 ≡ spelled "0") × (decimal 9 ≡ spelled "9") × (decimal 10 ≡ spelled "10") × (decimal 65000 ≡ spelled "65000")
unfolding digits_of decimal
numbers_spelled = (refl, refl, refl, refl)

-- with no place, and with AT
pub refusals_spelled : (refusal_line 7 (bare 13) ≡ spelled "7 refusal 13\n") × (refusal_line 30 (end_at 10) ≡ spelled "30 refusal 1 10\n")
unfolding bare end_at digits_of decimal at_text refusal_line
refusals_spelled = (refl, refl)
