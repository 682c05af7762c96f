-- `copying::look_held`: of the part that is left. Assumes nothing.
use Rattle.std.proofs.Common.{rules}
use Rattle.copying.proofs.look_held.Goals as goal

pub returns : goal.returns
returns c = rw (← c.rest_of.ensures) c.look.ensures
