-- `session::lack::is_cut`: each answer by the test. Assumes nothing.
use Rattle.std.proofs.Common.{eq-eqb, ne_eqb}
use Rattle.session.proofs.lack.is_cut.Statement.{statement}
use Rattle.session.proofs.lack.is_cut.Tie as tie

pub is_cut_spec : {M : Type 1} → statement M
is_cut_spec = tie.close (tie.spec (λ c. simp (eq-eqb _ _ c.if-why-eq-END.true)) (λ c. simp (ne_eqb _ _ c.if-why-eq-END.false)))
