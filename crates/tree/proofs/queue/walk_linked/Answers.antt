-- The kept table is accepted, and the walk goes by its links.
use Rattle.std.proofs.lemmas.Result.{err_from_is_err_and}
use mathlib.Core.Path.{refl, sym}
use Rattle.tree.proofs.laws.Kept.{kept_got, keeping_got, keeping_refused}
use Rattle.tree.proofs.laws.Links.{ok_linking}
use Rattle.tree.proofs.laws.Sound.{accepted, rows_long, marks_long}
use Rattle.tree.proofs.Trails.{front, walk_given, walk_refused}
use Rattle.tree.proofs.queue.walk_linked.Goals as goal

pub returns-in_err-check_links : goal.returns-in_err-check_links
returns-in_err-check_links c =
    let p = err_from_is_err_and c.from_residual.result c.from_residual.ensures.1 in
    rw (p.1, p.2) (keeping_refused _ _ _ c.in_err-check_links.ensures (walk_refused _ _) refl)

pub slice_bounds-walk_ruled-end : goal.slice_bounds-walk_ruled-end
slice_bounds-walk_ruled-end c = rows_long (accepted _ (kept_got _ _ _ c.in_ok-check_links.ensures).1)

pub slice_bounds-walk_ruled-end-2 : goal.slice_bounds-walk_ruled-end-2
slice_bounds-walk_ruled-end-2 c = marks_long (accepted _ (kept_got _ _ _ c.in_ok-check_links.ensures).1)

pub walk_ruled-n-requires : goal.walk_ruled-n-requires
walk_ruled-n-requires c = let k = kept_got _ _ _ c.in_ok-check_links.ensures in let s = accepted _ k.1 in record { ruled = s.kept.ruling; marks = s.marks; linking = ok_linking s k.0; parents_in_bounds = s.kept.ruling.few }

pub slice_bounds-queue-end : goal.slice_bounds-queue-end
slice_bounds-queue-end c = (front c.walk_ruled-n.ensures).2

pub slice_bounds-give-end : goal.slice_bounds-give-end
slice_bounds-give-end c = sym (front c.walk_ruled-n.ensures).1

pub returns : goal.returns
returns c = keeping_got _ _ _ c.in_ok-check_links.ensures (walk_given _ _ (kept_got _ _ _ c.in_ok-check_links.ensures).1 (front c.walk_ruled-n.ensures).0 c.give.ensures)
