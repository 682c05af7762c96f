-- The table is accepted, the place can be deleted, and what hangs below it ends.
use Rattle.std.proofs.lemmas.Result.{err_from_is_err_and}
use mathlib.Core.Bool.{and-eq-true_iff}
use mathlib.Core.Path.{sym, ◌∙◌}
use native.Mathlib.Omega.{arith}
use borrow.Author.Tests.{ltb-true}
use Rattle.tree.proofs.laws.Sound.{accepted, rows_long, marks_long}
use Rattle.shots.proofs.Replies.{delete_refused, delete_no, delete_done}
use Rattle.shots.proofs.deletion.delete.Goals as goal

pub returns-in_err-check_table : goal.returns-in_err-check_table
returns-in_err-check_table c =
    let p = err_from_is_err_and c.from_residual.result c.from_residual.ensures.1 in
    rw (p.1, p.2) (delete_refused _ _ _ c.in_err-check_table.ensures)

pub slice_bounds-may_end-end : goal.slice_bounds-may_end-end
slice_bounds-may_end-end c = let s = accepted _ c.in_ok-check_table.ensures in omega (arith, s.few, s.flagged)

pub slice_bounds-may_end-end-2 : goal.slice_bounds-may_end-end-2
slice_bounds-may_end-end-2 c = marks_long (accepted _ c.in_ok-check_table.ensures)

pub returns-then-not-may_end : goal.returns-then-not-may_end
returns-then-not-may_end c = delete_no _ _ c.in_ok-check_table.ensures (sym c.may_end.ensures ∙ c.if-not-may_end.true) c.plain.ensures

pub slice_bounds-fall-end : goal.slice_bounds-fall-end
slice_bounds-fall-end c = rows_long (accepted _ c.in_ok-check_table.ensures)

pub fall-requires : goal.fall-requires
fall-requires c =
    let s = accepted _ c.in_ok-check_table.ensures in
    let n = rows_long s in
    let m = (and-eq-true_iff _ _).0 (sym c.may_end.ensures ∙ c.if-not-may_end.false) in
    record {
      ruled = s.kept.ruling;
      parents_in_bounds = omega (arith, s.few, s.flagged);
      marks = rw (← n) s.marks;
      place_nonzero = ltb-true _ _ m.0;
      place_in_bounds = s.marks.place _ m.1;
    }

pub returns : goal.returns
returns c =
    let s = accepted _ c.in_ok-check_table.ensures in
    let n = rows_long s in
    delete_done _ _ c.in_ok-check_table.ensures s (sym c.may_end.ensures ∙ c.if-not-may_end.false) (rw (← n) at c.fall.ensures)
