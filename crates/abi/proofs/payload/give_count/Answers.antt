use Rattle.std.proofs.lemmas.Result.{err_from_is_err_and}
use Rattle.std.proofs.Common.{refl}
use Rattle.abi.specs.Rows.{number_row}
use Rattle.abi.proofs.laws.Answers.{row_given, row_refused}
use Rattle.abi.proofs.payload.give_count.Goals as goal

pub returns-in_err-n : goal.returns-in_err-n
returns-in_err-n c =
    let p = err_from_is_err_and c.from_residual.result c.from_residual.ensures.1 in
    rw (p.1, p.2) (row_refused number_row c.in_err-n.ensures)

pub returns : goal.returns
returns c = row_given number_row c.in_ok-n.ensures refl c.give.ensures
