-- A recording as a whole, as one number: how many records it has. The place after the last is the end of the bytes, and is not given.
-- Assumes nothing.
use Rattle.std.specs.Prelude.{ℕ, [], ◌∷◌}
use Rattle.layout.specs.Answer.{Answer, got, refused}
use Rattle.layout.specs.Written.{Said, says, no}

abbrev pub counted : Answer ℕ → Said
counted (got k n) = says (k ∷ [])
counted (refused t) = no t
