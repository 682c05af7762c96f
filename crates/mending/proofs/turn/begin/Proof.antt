-- `mending::turn::begin`: nothing is held, with the tally of the start. Assumes nothing.
use Rattle.std.proofs.Common.{rules}
use Rattle.mending.proofs.turn.begin.Statement.{statement}
use Rattle.mending.proofs.turn.begin.Tie as tie

pub begin_spec : {M : Type 1} → statement M
begin_spec = tie.close (tie.spec (λ c κs. search rules) (λ c κs. search rules) (λ c. rw (c.nothing-hold.ensures, c.start-tally.ensures)))
