-- What every reader answers: a value with the place after it, or a refusal.
-- Assumes nothing.
use Rattle.std.specs.Prelude.{Ok, Err}
use Rattle.std.specs.declared.result.Result.{Result}
use Rattle.layout.specs.Answer.{Answer, got, refused}
use Rattle.layout.specs.declared.Refusal.{Refusal}
use Rattle.wire.specs.declared.Cursor.{Cursor}

abbrev pub Read : Type 0 → Type 0
Read A = Result (A × Cursor) Refusal

-- the same answer in this paper's terms
abbrev pub says_read : {A : Type 0} → Read A → Answer A
says_read (Ok (a, c)) = got a c.at
says_read (Err t) = refused t
