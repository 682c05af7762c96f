-- `listing::turn::start`: nothing is held. Assumes nothing.
use Rattle.std.proofs.Common.{rules}
use Rattle.listing.proofs.turn.start.Statement.{statement}
use Rattle.listing.proofs.turn.start.Tie as tie

pub start_spec : {M : Type 1} → statement M
start_spec = tie.close (tie.spec (λ c κs. search rules) (λ c. rw c.nothing-hold.ensures))
