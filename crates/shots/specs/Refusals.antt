-- The refusal that adding an object adds, by document 02's number.
-- Assumes nothing.
use Rattle.std.specs.Prelude.{ℕ}

-- 1,024 live objects are held
abbrev pub TAKEN : ℕ
TAKEN = 19
