-- The refusals that the settings add, by document 02's numbers.
-- Assumes nothing.
use Rattle.std.specs.Prelude.{ℕ}

-- an entry's kind is not of the edition
abbrev pub EDITION : ℕ
EDITION = 17

-- 256 entries with other keys are held
abbrev pub FULL : ℕ
FULL = 18
