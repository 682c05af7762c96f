-- Reading goes ahead, and not past the end: of what the byte layer tells of its places, the place after what was read.
-- Assumes nothing.
use mathlib.Core.Path.{◌≡◌, subst}
use mathlib.Core.List.{List}
use Prim.Native.Nat.{ℕ, ◌≤◌}
use native.Mathlib.Omega.{arith}
use Rattle.layout.specs.Answer.{Answer, got}
use Rattle.layout.proofs.laws.Told.{Telling, read, ended, spoilt, other}
use Rattle.layout.proofs.laws.Numbers.{zero_one}
use Rattle.std.specs.Prelude.{Ok}
use Rattle.wire.specs.Layout.{shape}
use Rattle.wire.specs.Read.{Read}
use Rattle.wire.specs.Says.{says_value}
use Rattle.wire.specs.declared.Cursor.{Cursor}
use Rattle.wire.specs.declared.value.Value.{Value}
use Rattle.wire.specs.Places.{Located, value_at}
use Rattle.wire.proofs.laws.Told.{shape_telling}

place : {A : Type 0} {P : ℕ → Type 0} {x : Answer A} {a : A} {n : ℕ} → Telling P x → got a n ≡ x → P n
place {P} {n} (read {n = m} h) e = let same : m ≡ n = cc in subst P same h
place (ended p h) e = zero_one (cc)
place (spoilt p h) e = zero_one (cc)
place (other n i j) e = zero_one (cc)

pub value_ahead : (t : ℕ) (s : List ℕ) (at : ℕ) {l : Located} {n : ℕ} → got l n ≡ value_at t s at → at ≤ n
value_ahead t s at e = place {P = λ n. at ≤ n} (shape_telling s (λ i m h k. omega arith) (shape t) at (omega arith)) e

-- as a reader says it
pub value_found : (t : ℕ) (s : List ℕ) (at : ℕ) {r : Read Value} {v : Value} {c : Cursor} → says_value r ≡ value_at t s at → r ≡ Ok (v, c) → at ≤ c.at
value_found t s at e is = value_ahead t s at (rw is at e)
