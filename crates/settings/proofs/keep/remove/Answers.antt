-- `settings::keep::remove`: the row, then what is taken out of it. Assumes nothing.
use mathlib.Core.Path.{sym, ◌∙◌}
use Rattle.std.proofs.lemmas.Result.{err_from_is_err_and}
use Rattle.settings.proofs.Storing.{removed_refused}
use Rattle.settings.proofs.keep.remove.Goals as goal

pub take_out-requires : goal.take_out-requires
take_out-requires c = (_, sym c.in_ok-check_row.ensures)

pub returns-in_err-check_row : goal.returns-in_err-check_row
returns-in_err-check_row c =
    let p = err_from_is_err_and c.from_residual.result c.from_residual.ensures.1 in
    rw (p.1, p.2) (removed_refused _ _ _ (sym c.in_err-check_row.ensures))
