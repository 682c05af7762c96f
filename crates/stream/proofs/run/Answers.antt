-- After the last turn that the bound allows, one was taken. Assumes nothing.
use native.Mathlib.Omega.{arith}
use Rattle.stream.proofs.run.Goals as goal

pub returns : goal.returns
returns g c = c.loop.invariant (omega (arith, c.loop-test.false))
