use Rattle.std.proofs.lemmas.Result.{err_from_is_err_and}
use Rattle.std.proofs.Common.{sym, ap}
use Rattle.wire.specs.Says.{says_value}
use Rattle.abi.specs.Rows.{value_row}
use Rattle.abi.proofs.laws.Answers.{row_given, row_refused}
use Rattle.abi.proofs.value.give_read.Goals as goal

pub returns-in_err-v : goal.returns-in_err-v
returns-in_err-v c =
    let p = err_from_is_err_and c.from_residual.result c.from_residual.ensures.1 in
    rw (p.1, p.2) (row_refused value_row (sym (ap says_value c.in_err-v.was)))

pub returns : goal.returns
returns c = row_given value_row (sym (ap says_value c.in_ok-v.was)) c.placed_row.ensures c.give.ensures
