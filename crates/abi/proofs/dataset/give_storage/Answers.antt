-- The record's row where it ends as it must, or the refusal.
use Rattle.std.proofs.lemmas.Result.{err_from_is_err_and}
use Rattle.abi.specs.Rows.{fields_row}
use Rattle.abi.proofs.laws.Answers.{row_given, row_refused, storage-ends, storage-trailed, storage_refused}
use Rattle.abi.proofs.dataset.give_storage.Goals as goal

pub returns-in_err-x : goal.returns-in_err-x
returns-in_err-x c =
    let p = err_from_is_err_and c.from_residual.result c.from_residual.ensures.1 in
    rw (p.1, p.2) (row_refused fields_row (storage_refused c.args.s.now c.args.filling c.in_err-x.ensures))

pub returns-in_err-end : goal.returns-in_err-end
returns-in_err-end c =
    let p = err_from_is_err_and c.from_residual-in_err-end.result c.from_residual-in_err-end.ensures.1 in
    rw (p.1, p.2) (row_refused fields_row (storage-trailed c.args.s.now c.args.filling c.in_ok-x.ensures c.in_err-end.ensures))

pub returns : goal.returns
returns c = row_given fields_row (storage-ends c.args.s.now c.args.filling c.in_ok-x.ensures c.in_ok-end.ensures) c.storage_row.ensures c.give.ensures
