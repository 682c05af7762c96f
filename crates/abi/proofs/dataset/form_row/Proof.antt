-- `abi::dataset::form_row`: each case by the case that it is given. Assumes nothing.
use Rattle.std.proofs.Common.{rules}
use Rattle.abi.proofs.dataset.form_row.Statement.{statement}
use Rattle.abi.proofs.dataset.form_row.Tie as tie

pub form_row_spec : {M : Type 1} → statement M
form_row_spec =
    tie.close
    (tie.spec
    (λ c. search rules)
    (λ c. search rules)
    (λ c. search rules)
    (λ c. search rules)
    (λ c. search rules)
    (λ c. rw c.in-Range.is)
    (λ c. rw c.in-List.is))
