-- The whole of INT64 and of UINT64, computed: from the lowest to the highest with each kind of step, and the highest as the minimum. Once by the integers, once by the words.
-- Assumes nothing.
use Rattle.std.proofs.Common.{◌≡◌, Bool, true, false, ℤ, pos, negsuc, refl}
use Rattle.panel.specs.Test.{on_step, in_range}
use Rattle.panel.specs.Words.{at_most, span, at_step, whole_range}
use Rattle.panel.proofs.Spans.{whole}

abbrev lowest : ℤ
lowest = negsuc 9223372036854775807

abbrev highest : ℤ
highest = pos 9223372036854775807

abbrev greatest : ℤ
greatest = pos 18446744073709551615

-- the integers' test and the words' answer both so
abbrev Both : ℤ → ℤ → ℤ → ℤ → Bool → Type 0
Both low high step v b = (in_range low high step v ≡ b) × (whole_range (whole low) (whole high) (whole step) (whole v) ≡ b)

-- ── from the lowest to the highest: their span is 2^64 - 1 ──

-- by the highest: the lowest, -1 and the highest but one
step_highest : Both lowest highest highest lowest true × Both lowest highest highest (negsuc 0) true × Both lowest highest highest (pos 9223372036854775806) true
    × Both lowest highest highest highest false × Both lowest highest highest (pos 0) false
unfolding on_step in_range at_most span at_step whole_range
step_highest = ((refl, refl), (refl, refl), (refl, refl), (refl, refl), (refl, refl))

-- by 1: every one
step_one : Both lowest highest (pos 1) lowest true × Both lowest highest (pos 1) (pos 0) true × Both lowest highest (pos 1) highest true
unfolding on_step in_range at_most span at_step whole_range
step_one = ((refl, refl), (refl, refl), (refl, refl))

-- by 0 and by -1: the ends alone
step_none : Both lowest highest (pos 0) lowest true × Both lowest highest (pos 0) highest true × Both lowest highest (pos 0) (pos 0) false
unfolding on_step in_range at_most span at_step whole_range
step_none = ((refl, refl), (refl, refl), (refl, refl))

step_below : Both lowest highest (negsuc 0) lowest true × Both lowest highest (negsuc 0) highest true × Both lowest highest (negsuc 0) (negsuc 0) false
unfolding on_step in_range at_most span at_step whole_range
step_below = ((refl, refl), (refl, refl), (refl, refl))

-- ── the highest as the minimum ──

from_highest : Both highest lowest (pos 1) (pos 0) false × Both highest lowest (pos 0) highest false × Both highest lowest (negsuc 0) lowest false × Both highest highest (pos 1) highest true
unfolding on_step in_range at_most span at_step whole_range
from_highest = ((refl, refl), (refl, refl), (refl, refl), (refl, refl))

-- ── UINT64 from 0 to 2^64 - 1 by 2^64 - 1 ──

all_unsigned : Both (pos 0) greatest greatest (pos 0) true × Both (pos 0) greatest greatest greatest true × Both (pos 0) greatest greatest (pos 1) false
unfolding on_step in_range at_most span at_step whole_range
all_unsigned = ((refl, refl), (refl, refl), (refl, refl))
