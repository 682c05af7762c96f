-- `wire::row::tidy_row`: a row's values as it lists them. Assumes nothing.
use Rattle.std.proofs.lemmas.Result.{err_from_is_err_and}
use native.Mathlib.Omega.{arith}
use Rattle.layout.proofs.laws.Tidied.{said_got, said_refused}
use Rattle.layout.proofs.laws.Writing.{refusal, no_room, done}
use Rattle.wire.specs.Tidy.{row_word}
use Rattle.wire.proofs.RowWords.{types_all}
use Rattle.wire.proofs.row.tidy_row.Goals as goal

pub returns-in_err-tidy : goal.returns-in_err-tidy
returns-in_err-tidy c =
    let a = c.args in
    let p = err_from_is_err_and c.from_residual.result c.from_residual.ensures.1 in
    rw (p.1, p.2) (refusal (said_refused (row_word a.codes.now a.src.now 0) _ (rw (types_all a.codes.now) at c.in_err-tidy.ensures)))

pub returns-then-out-tidy : goal.returns-then-out-tidy
returns-then-out-tidy c =
    let a = c.args in
    let w = said_got (row_word a.codes.now a.src.now 0) _ _ (rw (types_all a.codes.now) at c.in_ok-tidy.ensures) in
    no_room w.0 (omega arith) c.plain.ensures

pub put_row-requires : goal.put_row-requires
put_row-requires c =
    let a = c.args in
    let w = said_got (row_word a.codes.now a.src.now 0) _ _ (rw (types_all a.codes.now) at c.in_ok-tidy.ensures) in
    rw (types_all a.codes.now) (record { first_value = w.1; first_in_bounds = omega arith })

pub returns : goal.returns
returns c =
    let a = c.args in
    let w = said_got (row_word a.codes.now a.src.now 0) _ _ (rw (types_all a.codes.now) at c.in_ok-tidy.ensures) in
    done w.0 (omega arith) (rw (types_all a.codes.now) at c.put_row.ensures)
