-- `copying::copy_held`: the records at the front, of the part that is left. Assumes nothing.
use Rattle.std.proofs.Common.{rules}
use Rattle.copying.proofs.copy_held.Goals as goal

pub returns : goal.returns
returns c = rw (← c.rest_of.ensures) c.copy_front.ensures
