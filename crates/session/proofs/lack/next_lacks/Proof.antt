-- `session::lack::next_lacks`: each answer by the tests. Assumes nothing.
use Rattle.std.proofs.Common.{eq-eqb, ne_eqb}
use Rattle.session.proofs.lack.next_lacks.Statement.{statement}
use Rattle.session.proofs.lack.next_lacks.Tie as tie

pub next_lacks_spec : {M : Type 1} → statement M
next_lacks_spec = tie.close (tie.spec (λ c. simp (ne_eqb _ _ c.if-h-number.true)) (λ c. simp (eq-eqb _ _ c.if-h-number.false, eq-eqb _ _ c.if-h-eq3.true)) (λ c. simp (eq-eqb _ _ c.if-h-number.false, ne_eqb _ _ c.if-h-eq3.false)))
