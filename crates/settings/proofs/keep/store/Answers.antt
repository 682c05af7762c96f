-- `settings::keep::store`: the row, then the entry, then both. Assumes nothing.
use mathlib.Core.Path.{sym}
use Rattle.std.proofs.lemmas.Result.{err_from_is_err_and}
use Rattle.settings.proofs.Storing.{stored_row_refused, stored_entry_refused}
use Rattle.settings.proofs.keep.store.Goals as goal

pub put_in-requires : goal.put_in-requires
put_in-requires c = (sym c.in_ok-count.ensures, (_, sym c.in_ok-x.ensures))

pub returns-in_err-x : goal.returns-in_err-x
returns-in_err-x c =
    let p = err_from_is_err_and c.from_residual-in_err-x.result c.from_residual-in_err-x.ensures.1 in
    rw (p.1, p.2) (stored_entry_refused c.args.edition c.args.row.now c.args.entry.now _ (sym c.in_ok-count.ensures) c.in_err-x.ensures)

pub returns-in_err-count : goal.returns-in_err-count
returns-in_err-count c =
    let p = err_from_is_err_and c.from_residual.result c.from_residual.ensures.1 in
    rw (p.1, p.2) (stored_row_refused c.args.edition c.args.row.now c.args.entry.now (sym c.in_err-count.ensures))
