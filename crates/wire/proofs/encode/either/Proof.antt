-- `wire::encode::either`: what two numbers have together in their bits is no less than either. Assumes nothing.
use native.Mathlib.Omega.{arith}
use lib.Bits.{or_add_and, and_le_l, and_le_r}
use Rattle.wire.proofs.encode.either.Statement.{statement}
use Rattle.wire.proofs.encode.either.Tie as tie

pub either_spec : {M : Type 1} → statement M
either_spec = tie.close (tie.spec (λ c. let a = c.args in (omega (arith, or_add_and a.a a.b, and_le_r a.a a.b), omega (arith, or_add_and a.a a.b, and_le_l a.a a.b))))
