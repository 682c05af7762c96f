use Rattle.std.proofs.lemmas.Result.{err_from_is_err_and}
use Rattle.abi.specs.Rows.{response_row}
use Rattle.abi.proofs.laws.Answers.{row_given, row_refused}
use Rattle.abi.proofs.transaction.give_response.Goals as goal

pub returns-in_err-x : goal.returns-in_err-x
returns-in_err-x c =
    let p = err_from_is_err_and c.from_residual.result c.from_residual.ensures.1 in
    rw (p.1, p.2) (row_refused response_row c.in_err-x.ensures)

pub returns : goal.returns
returns c = row_given response_row c.in_ok-x.ensures c.response_numbers.ensures c.give.ensures
