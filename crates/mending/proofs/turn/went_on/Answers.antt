-- `mending::turn::went_on`: the one test, then the other. Assumes nothing.
use Rattle.std.proofs.Common.{le-ltb, lt-ltb}
use Rattle.mending.proofs.turn.went_on.Goals as goal

pub returns-then-used-gt0 : goal.returns-then-used-gt0
returns-then-used-gt0 c = rw (lt-ltb 0 c.args.used c.if-used-gt0.true)

pub returns : goal.returns
returns c = rw (le-ltb 0 c.args.used c.if-used-gt0.false)
