-- The table is accepted, its walk is made, and the paths are given.
use Rattle.std.proofs.lemmas.Result.{err_from_is_err_and}
use mathlib.Core.Path.{sym}
use Rattle.tree.proofs.laws.Sound.{accepted, rows_long, stops_long, marks_long, even}
use Rattle.tree.proofs.Trails.{front, listing, all_given, all_refused}
use Rattle.tree.proofs.every.paths.Goals as goal

pub returns-in_err-check_table : goal.returns-in_err-check_table
returns-in_err-check_table c =
    let p = err_from_is_err_and c.from_residual.result c.from_residual.ensures.1 in
    rw (p.1, p.2) (all_refused _ _ _ c.in_err-check_table.ensures)

pub slice_bounds-walk_made-end : goal.slice_bounds-walk_made-end
slice_bounds-walk_made-end c = rows_long (accepted _ c.in_ok-check_table.ensures)

pub slice_bounds-walk_made-end-2 : goal.slice_bounds-walk_made-end-2
slice_bounds-walk_made-end-2 c = marks_long (accepted _ c.in_ok-check_table.ensures)

pub walk_made-n-requires : goal.walk_made-n-requires
walk_made-n-requires c = let s = accepted _ c.in_ok-check_table.ensures in record { ruled = s.kept.ruling; marks_len = even s; marks = s.marks; parents_in_bounds = s.kept.ruling.few }

pub slice_bounds-give_paths-end : goal.slice_bounds-give_paths-end
slice_bounds-give_paths-end c = rows_long (accepted _ c.in_ok-check_table.ensures)

pub slice_bounds-give_paths-end-2 : goal.slice_bounds-give_paths-end-2
slice_bounds-give_paths-end-2 c = stops_long (accepted _ c.in_ok-check_table.ensures)

pub slice_bounds-places-end : goal.slice_bounds-places-end
slice_bounds-places-end c = (front c.walk_made-n.ensures).2

pub slice_bounds-give_paths-end-3 : goal.slice_bounds-give_paths-end-3
slice_bounds-give_paths-end-3 c = sym (front c.walk_made-n.ensures).1

pub give_paths-requires : goal.give_paths-requires
give_paths-requires c = let s = accepted _ c.in_ok-check_table.ensures in listing s.kept s.marks (front c.walk_made-n.ensures).0

pub returns : goal.returns
returns c = all_given _ _ _ c.in_ok-check_table.ensures (front c.walk_made-n.ensures).0 c.give_paths.ensures
