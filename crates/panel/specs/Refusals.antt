-- The refusals that the panel adds, by document 02's numbers.
-- Assumes nothing.
use Rattle.std.specs.Prelude.{ℕ}

-- another type than the description's, UNDEF, or a range of anything but integers of 8 to 64 bits
abbrev pub TYPE : ℕ
TYPE = 15

-- the description's form does not allow the value
abbrev pub VALUE : ℕ
VALUE = 16
