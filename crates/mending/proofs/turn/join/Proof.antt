-- `mending::turn::join`: what is held is joined. Assumes nothing.
use Rattle.std.proofs.Common.{rules}
use Rattle.mending.proofs.turn.join.Statement.{statement}
use Rattle.mending.proofs.turn.join.Tie as tie

pub join_spec : {M : Type 1} → statement M
join_spec = tie.close (tie.spec (λ c κs. search rules) (λ c. rw c.join-hold.ensures))
