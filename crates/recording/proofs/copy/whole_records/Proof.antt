-- `recording::copy::whole_records`: where the sweep ended. Assumes nothing.
use borrow.Author.Rules.{rules}
use Rattle.recording.proofs.copy.whole_records.Statement.{statement}
use Rattle.recording.proofs.copy.whole_records.Tie as tie

pub whole_records_spec : {M : Type 1} → statement M
whole_records_spec = tie.close (tie.spec (λ c κs. search rules) (λ c. c.sweep.ensures.end))
