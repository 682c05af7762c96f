use Rattle.std.proofs.lemmas.Result.{err_from_is_err_and}
use Rattle.std.proofs.Common.{refl}
use Rattle.abi.specs.Rows.{slot_row}
use Rattle.abi.proofs.laws.Answers.{row_given, row_refused}
use Rattle.abi.proofs.property.give_value.Goals as goal

pub returns-in_err-p : goal.returns-in_err-p
returns-in_err-p c =
    let p = err_from_is_err_and c.from_residual.result c.from_residual.ensures.1 in
    rw (p.1, p.2) (row_refused slot_row c.in_err-p.ensures)

pub returns : goal.returns
returns c = row_given slot_row c.in_ok-p.ensures refl c.give.ensures
