-- `mending::window::has_slot`: no stretch needs no room, and one needs one. Assumes nothing.
use Rattle.std.proofs.Common.{sym, arith, le-leb}
use Rattle.mending.proofs.Stretched.{stretch_none, stretch_one, first_slot}
use Rattle.mending.proofs.window.has_slot.Goals as goal

pub returns-then-untold-eq0 : goal.returns-then-untold-eq0
returns-then-untold-eq0 c = rw (stretch_none c.args.place c.if-untold-eq0.true) (sym (le-leb 0 c.args.left (omega arith)))

pub returns : goal.returns
returns c = rw (stretch_one c.args.place c.args.untold (omega (arith, c.if-untold-eq0.false))) (first_slot c.args.left)
