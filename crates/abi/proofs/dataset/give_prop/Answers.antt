use Rattle.std.proofs.lemmas.Result.{err_from_is_err_and}
use Rattle.abi.specs.Rows.{prop_row}
use Rattle.abi.proofs.laws.Answers.{row_given, row_refused}
use Rattle.abi.proofs.dataset.give_prop.Goals as goal

pub returns-in_err-x : goal.returns-in_err-x
returns-in_err-x c =
    let p = err_from_is_err_and c.from_residual.result c.from_residual.ensures.1 in
    rw (p.1, p.2) (row_refused prop_row c.in_err-x.ensures)

pub returns : goal.returns
returns c = row_given prop_row c.in_ok-x.ensures c.prop_row.ensures c.give.ensures
