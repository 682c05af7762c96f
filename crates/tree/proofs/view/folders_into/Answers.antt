-- The table is accepted, and its folder view, made apart, is given.
use Rattle.std.proofs.lemmas.Result.{err_from_is_err_and}
use mathlib.Core.Path.{refl, sym}
use Rattle.tree.proofs.laws.Sound.{accepted, rows_long, marks_long, even}
use Rattle.tree.proofs.Viewing.{view_front, view_given, view_refused}
use Rattle.tree.proofs.view.folders_into.Goals as goal

pub returns-in_err-check_table : goal.returns-in_err-check_table
returns-in_err-check_table c =
    let p = err_from_is_err_and c.from_residual.result c.from_residual.ensures.1 in
    rw (p.1, p.2) (view_refused _ _ c.in_err-check_table.ensures)

pub slice_bounds-view_made-end : goal.slice_bounds-view_made-end
slice_bounds-view_made-end c = rows_long (accepted _ c.in_ok-check_table.ensures)

pub slice_bounds-view_made-end-2 : goal.slice_bounds-view_made-end-2
slice_bounds-view_made-end-2 c = marks_long (accepted _ c.in_ok-check_table.ensures)

pub view_made-n-requires : goal.view_made-n-requires
view_made-n-requires c = let s = accepted _ c.in_ok-check_table.ensures in record { ruled = s.kept.ruling; marks_len = even s; marks = s.marks; parents_in_bounds = s.kept.ruling.few }

pub slice_bounds-view-end : goal.slice_bounds-view-end
slice_bounds-view-end c = (view_front (accepted _ c.in_ok-check_table.ensures) c.view_made-n.ensures refl).2

pub slice_bounds-give-end : goal.slice_bounds-give-end
slice_bounds-give-end c = sym (view_front (accepted _ c.in_ok-check_table.ensures) c.view_made-n.ensures refl).1

pub returns : goal.returns
returns c = view_given _ _ c.in_ok-check_table.ensures (view_front (accepted _ c.in_ok-check_table.ensures) c.view_made-n.ensures refl).0 c.give.ensures
