-- `copying::begin`: nothing is held. Assumes nothing.
use Rattle.std.proofs.Common.{rules}
use Rattle.copying.proofs.begin.Statement.{statement}
use Rattle.copying.proofs.begin.Tie as tie

pub begin_spec : {M : Type 1} → statement M
begin_spec = tie.close (tie.spec (λ c κs. search rules) (λ c. rw c.nothing-hold.ensures))
