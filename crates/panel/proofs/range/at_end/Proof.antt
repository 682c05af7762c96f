-- `panel::range::at_end`: one test, then the other. Assumes nothing.
use Rattle.std.proofs.Common.{eq-eqb, ne_eqb}
use Rattle.panel.proofs.range.at_end.Statement.{statement}
use Rattle.panel.proofs.range.at_end.Tie as tie

pub at_end_spec : {M : Type 1} → statement M
at_end_spec = tie.close (tie.spec (λ c. rw (eq-eqb _ _ c.if-v-low.true)) (λ c. rw (ne_eqb _ _ c.if-v-low.false)))
