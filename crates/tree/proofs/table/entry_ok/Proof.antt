-- `tree::table::entry_ok`: each answer by the test that led there. Assumes nothing.
use borrow.Author.Tests.{eq-eqb, ne_eqb}
use Rattle.tree.proofs.table.entry_ok.Statement.{statement}
use Rattle.tree.proofs.table.entry_ok.Tie as tie

pub entry_ok_spec : {M : Type 1} → statement M
entry_ok_spec = tie.close (tie.spec (λ c. rw (eq-eqb c.args.k 0 c.if-k-eq0.true)) (λ c. rw (ne_eqb c.args.k 0 c.if-k-eq0.false)))
