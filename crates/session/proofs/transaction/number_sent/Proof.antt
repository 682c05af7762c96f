-- `session::transaction::number_sent`: each number by the test. Assumes nothing.
use Rattle.std.proofs.Common.{sym}
use Rattle.session.proofs.Numbers.{sends_zero, sends_state}
use Rattle.session.proofs.transaction.number_sent.Statement.{statement}
use Rattle.session.proofs.transaction.number_sent.Tie as tie

pub number_sent_spec : {M : Type 1} → statement M
number_sent_spec = tie.close (tie.spec (λ c. sym (sends_zero _ _ c.if-code-eq-OPEN_SESSION.true)) (λ c. sym (sends_state _ _ c.if-code-eq-OPEN_SESSION.false)))
