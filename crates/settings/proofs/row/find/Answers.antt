-- `settings::row::find`: the row is checked, then what is kept is where the search says. Assumes nothing.
use mathlib.Core.Path.{sym, ap, ◌∙◌}
use Rattle.std.specs.Prelude.{Ok}
use Rattle.layout.proofs.laws.Numbers.{bytes_of}
use Rattle.std.proofs.lemmas.Result.{err_from_is_err_and}
use Rattle.settings.proofs.Accepted.{known, found_at, found_refused}
use Rattle.settings.proofs.row.find.Goals as goal

pub best_place-at-requires : goal.best_place-at-requires
best_place-at-requires c =
    let k = known c.args.edition c.args.row.now (bytes_of _ (λ i. (c.type_inv.row i).fits)) _ (sym c.in_ok-check_row.ensures) in
    (c.args.edition, k.entries, k.chain)

pub returns : goal.returns
returns c =
    let a = c.args in
    ap Ok c.held_at.ensures
    ∙ found_at a.edition a.row.now (bytes_of _ (λ i. (c.type_inv.row i).fits)) a.vendor a.property a.serial.now _ (sym c.in_ok-check_row.ensures) c.best_place-at.ensures

pub returns-in_err-check_row : goal.returns-in_err-check_row
returns-in_err-check_row c =
    let p = err_from_is_err_and c.from_residual.result c.from_residual.ensures.1 in
    rw (p.1, p.2) (found_refused c.args.edition c.args.row.now c.args.vendor c.args.property c.args.serial.now (sym c.in_err-check_row.ensures))
