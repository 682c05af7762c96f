-- `session::search::latest`: each answer by the test. Assumes nothing.
use Rattle.std.proofs.Common.{eq-eqb, ne_eqb}
use Rattle.session.proofs.search.latest.Statement.{statement}
use Rattle.session.proofs.search.latest.Tie as tie

pub latest_spec : {M : Type 1} → statement M
latest_spec = tie.close (tie.spec (λ c. simp (eq-eqb _ _ c.if-x-eq2.true)) (λ c. simp (ne_eqb _ _ c.if-x-eq2.false)))
