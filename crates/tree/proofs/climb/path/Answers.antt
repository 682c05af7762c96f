-- The table is accepted, the place is live, the path has room, and is put.
use Rattle.std.proofs.lemmas.Result.{err_from_is_err_and}
use mathlib.Core.Path.{sym, ap, ◌∙◌}
use native.Mathlib.Omega.{arith}
use Rattle.layout.specs.Written.{no}
use Rattle.layout.proofs.laws.Writing.{refusal, no_room, done}
use Rattle.tree.proofs.Routes.{said_table, said_absent, said_path}
use Rattle.tree.proofs.laws.Sound.{accepted, rows_long, stops_long, behind, ended_at, live_at}
use Rattle.tree.proofs.climb.path.Goals as goal

pub returns-in_err-check_table : goal.returns-in_err-check_table
returns-in_err-check_table c =
    let p = err_from_is_err_and c.from_residual.result c.from_residual.ensures.1 in
    rw (p.1, p.2) (refusal (said_table _ _ c.in_err-check_table.ensures))

pub returns-then-count-place : goal.returns-then-count-place
returns-then-count-place c = refusal (said_absent _ _ c.in_ok-check_table.ensures (behind (accepted _ c.in_ok-check_table.ensures) c.if-count-place.true) ∙ ap no (sym c.plain.ensures))

pub bounds-marks-place : goal.bounds-marks-place
bounds-marks-place c = let s = accepted _ c.in_ok-check_table.ensures in omega (arith, c.if-count-place.false, s.few, s.flagged)

pub returns-then-marks-place-eq0 : goal.returns-then-marks-place-eq0
returns-then-marks-place-eq0 c = refusal (said_absent _ _ c.in_ok-check_table.ensures (ended_at (accepted _ c.in_ok-check_table.ensures) c.if-count-place.false c.if-marks-place-eq0.true) ∙ ap no (sym c.plain-then-marks-place-eq0.ensures))

pub slice_bounds-path_len-end : goal.slice_bounds-path_len-end
slice_bounds-path_len-end c = rows_long (accepted _ c.in_ok-check_table.ensures)

pub slice_bounds-path_len-end-2 : goal.slice_bounds-path_len-end-2
slice_bounds-path_len-end-2 c = stops_long (accepted _ c.in_ok-check_table.ensures)

pub path_len-requires : goal.path_len-requires
path_len-requires c = let s = accepted _ c.in_ok-check_table.ensures in record { kept = s.kept; place_in_bounds = omega (arith, c.if-count-place.false, rows_long s) }

pub returns-then-out-path_len : goal.returns-then-out-path_len
returns-then-out-path_len c = no_room (said_path _ _ c.in_ok-check_table.ensures (live_at (accepted _ c.in_ok-check_table.ensures) c.if-count-place.false c.if-marks-place-eq0.false)) (omega (arith, c.path_len.ensures, c.if-out-path_len.true)) c.plain-then-out-path_len.ensures

pub slice_bounds-put_path-end : goal.slice_bounds-put_path-end
slice_bounds-put_path-end c = rows_long (accepted _ c.in_ok-check_table.ensures)

pub slice_bounds-put_path-end-2 : goal.slice_bounds-put_path-end-2
slice_bounds-put_path-end-2 c = stops_long (accepted _ c.in_ok-check_table.ensures)

pub put_path-requires : goal.put_path-requires
put_path-requires c =
    let s = accepted _ c.in_ok-check_table.ensures in
    record {
      kept = s.kept;
      place_in_bounds = omega (arith, c.if-count-place.false, rows_long s);
      place_in_bounds_2 = omega (arith, c.path_len.ensures, c.if-out-path_len.false);
    }

pub returns : goal.returns
returns c = done (said_path _ _ c.in_ok-check_table.ensures (live_at (accepted _ c.in_ok-check_table.ensures) c.if-count-place.false c.if-marks-place-eq0.false)) (omega (arith, c.path_len.ensures, c.if-out-path_len.false)) c.put_path.ensures
