-- `tree::table::end_ok`: each answer by the test that led there. Assumes nothing.
use borrow.Author.Tests.{le-leb, lt-leb}
use Rattle.tree.proofs.table.end_ok.Statement.{statement}
use Rattle.tree.proofs.table.end_ok.Tie as tie

pub end_ok_spec : {M : Type 1} → statement M
end_ok_spec = tie.close (tie.spec (λ c. rw (le-leb c.args.from c.args.end c.if-from-end.true)) (λ c. rw (lt-leb c.args.from c.args.end c.if-from-end.false)))
