-- The table is accepted, and its walk, made apart, is given.
use Rattle.std.proofs.lemmas.Result.{err_from_is_err_and}
use mathlib.Core.Path.{sym}
use Rattle.tree.proofs.laws.Sound.{accepted, rows_long, marks_long, even}
use Rattle.tree.proofs.Trails.{front, walk_given, walk_refused}
use Rattle.tree.proofs.queue.walk_into.Goals as goal

pub returns-in_err-check_table : goal.returns-in_err-check_table
returns-in_err-check_table c =
    let p = err_from_is_err_and c.from_residual.result c.from_residual.ensures.1 in
    rw (p.1, p.2) (walk_refused _ _ c.in_err-check_table.ensures)

pub slice_bounds-walk_made-end : goal.slice_bounds-walk_made-end
slice_bounds-walk_made-end c = rows_long (accepted _ c.in_ok-check_table.ensures)

pub slice_bounds-walk_made-end-2 : goal.slice_bounds-walk_made-end-2
slice_bounds-walk_made-end-2 c = marks_long (accepted _ c.in_ok-check_table.ensures)

pub walk_made-n-requires : goal.walk_made-n-requires
walk_made-n-requires c = let s = accepted _ c.in_ok-check_table.ensures in record { ruled = s.kept.ruling; marks_len = even s; marks = s.marks; parents_in_bounds = s.kept.ruling.few }

pub slice_bounds-queue-end : goal.slice_bounds-queue-end
slice_bounds-queue-end c = (front c.walk_made-n.ensures).2

pub slice_bounds-give-end : goal.slice_bounds-give-end
slice_bounds-give-end c = sym (front c.walk_made-n.ensures).1

pub returns : goal.returns
returns c = walk_given _ _ c.in_ok-check_table.ensures (front c.walk_made-n.ensures).0 c.give.ensures
