-- An accepted table keeps the rule, and so has its walk.
use mathlib.Core.Path.{refl, sym}
use Rattle.tree.proofs.laws.Sound.{accepted, rows_long, marks_long, even}
use Rattle.tree.specs.Says.{order, no_order}
use Rattle.tree.proofs.queue.walk.Goals as goal

pub slice_bounds-walk_made-end : goal.slice_bounds-walk_made-end
slice_bounds-walk_made-end c = rows_long (accepted _ c.in-Ok.ensures)

pub slice_bounds-walk_made-end-in-Ok : goal.slice_bounds-walk_made-end-in-Ok
slice_bounds-walk_made-end-in-Ok c = marks_long (accepted _ c.in-Ok.ensures)

pub walk_made-n-requires : goal.walk_made-n-requires
walk_made-n-requires c = let s = accepted _ c.in-Ok.ensures in record { ruled = s.kept.ruling; marks_len = even s; marks = s.marks; parents_in_bounds = s.kept.ruling.few }

pub returns-in-Ok : goal.returns-in-Ok
returns-in-Ok c = order (sym c.in-Ok.ensures) c.plain.ensures c.walk_made-n.ensures

pub returns-in-Err : goal.returns-in-Err
returns-in-Err c = no_order (sym c.in-Err.ensures) refl refl refl
