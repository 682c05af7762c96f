-- `mending::window::all_come`: bytes are left, or none are. Assumes nothing.
use Rattle.std.proofs.Common.{le-ltb, lt-ltb}
use Rattle.mending.proofs.window.all_come.Goals as goal

pub returns-then-used-size : goal.returns-then-used-size
returns-then-used-size c = rw (lt-ltb c.args.used c.args.size c.if-used-size.true)

pub returns : goal.returns
returns c = rw (le-ltb c.args.used c.args.size c.if-used-size.false)
