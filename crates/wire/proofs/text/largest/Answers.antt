-- `wire::text::largest`: one unit more. Assumes nothing.
use native.Mathlib.Nat.{le_refl}
use native.Mathlib.Omega.{arith}
use Rattle.wire.proofs.Turns.{one_more, none_more}
use Rattle.wire.proofs.text.largest.Goals as goal

pub loop-i-preserved : goal.loop-i-preserved
loop-i-preserved c =
    let a = c.args in
    let l = c.loop-i in
    λ m h rest. l.invariant m (omega (arith, c.max-most.ensures)) (rw (one_more 2 a.n a.s.now a.at l.i (omega arith), ← c.unit_at.ensures) (omega (arith, c.max-most.ensures), rest))

pub returns : goal.returns
returns c =
    let a = c.args in
    let l = c.loop-i in
    l.invariant _ (le_refl _) (rw (none_more 2 a.n a.s.now a.at l.i (omega arith)) tt)
