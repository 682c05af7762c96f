-- `mending::turn::mend_held`: the window's mending, at the part that is left. Assumes nothing.
use Rattle.std.proofs.Common.{rules}
use Rattle.mending.proofs.turn.mend_held.Goals as goal

pub returns : goal.returns
returns c = rw (← c.rest_of.ensures) c.mend_window.ensures
