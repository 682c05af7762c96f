-- `listing::turn::list_held`: the window's listing, at the part that is left. Assumes nothing.
use Rattle.std.proofs.Common.{rules}
use Rattle.listing.proofs.turn.list_held.Goals as goal

pub returns : goal.returns
returns c = rw (← c.rest_of.ensures) c.list_window.ensures
