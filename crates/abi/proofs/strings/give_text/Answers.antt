use Rattle.std.proofs.lemmas.Result.{err_from_is_err_and}
use Rattle.std.proofs.Common.{refl}
use Rattle.abi.specs.Rows.{part_row}
use Rattle.abi.proofs.laws.Answers.{row_given, row_refused}
use Rattle.abi.proofs.strings.give_text.Goals as goal

pub returns-in_err-p : goal.returns-in_err-p
returns-in_err-p c =
    let p = err_from_is_err_and c.from_residual.result c.from_residual.ensures.1 in
    rw (p.1, p.2) (row_refused part_row c.in_err-p.ensures)

pub returns : goal.returns
returns c = row_given part_row c.in_ok-p.ensures refl c.give.ensures
