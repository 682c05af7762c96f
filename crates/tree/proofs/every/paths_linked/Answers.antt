-- The kept table is accepted, the walk goes by its links, and the paths are given.
use Rattle.std.proofs.lemmas.Result.{err_from_is_err_and}
use mathlib.Core.Path.{refl, sym}
use Rattle.tree.proofs.laws.Kept.{kept_got, keeping_got, keeping_refused}
use Rattle.tree.proofs.laws.Links.{ok_linking}
use Rattle.tree.proofs.laws.Sound.{accepted, rows_long, stops_long, marks_long}
use Rattle.tree.proofs.Trails.{front, listing, all_given, all_refused}
use Rattle.tree.proofs.every.paths_linked.Goals as goal

pub returns-in_err-check_links : goal.returns-in_err-check_links
returns-in_err-check_links c =
    let p = err_from_is_err_and c.from_residual.result c.from_residual.ensures.1 in
    rw (p.1, p.2) (keeping_refused _ _ _ c.in_err-check_links.ensures (all_refused _ _ _) (refl, refl))

pub slice_bounds-walk_ruled-end : goal.slice_bounds-walk_ruled-end
slice_bounds-walk_ruled-end c = rows_long (accepted _ (kept_got _ _ _ c.in_ok-check_links.ensures).1)

pub slice_bounds-walk_ruled-end-2 : goal.slice_bounds-walk_ruled-end-2
slice_bounds-walk_ruled-end-2 c = marks_long (accepted _ (kept_got _ _ _ c.in_ok-check_links.ensures).1)

pub walk_ruled-n-requires : goal.walk_ruled-n-requires
walk_ruled-n-requires c = let k = kept_got _ _ _ c.in_ok-check_links.ensures in let s = accepted _ k.1 in record { ruled = s.kept.ruling; marks = s.marks; linking = ok_linking s k.0; parents_in_bounds = s.kept.ruling.few }

pub slice_bounds-give_paths-end : goal.slice_bounds-give_paths-end
slice_bounds-give_paths-end c = rows_long (accepted _ (kept_got _ _ _ c.in_ok-check_links.ensures).1)

pub slice_bounds-give_paths-end-2 : goal.slice_bounds-give_paths-end-2
slice_bounds-give_paths-end-2 c = stops_long (accepted _ (kept_got _ _ _ c.in_ok-check_links.ensures).1)

pub slice_bounds-places-end : goal.slice_bounds-places-end
slice_bounds-places-end c = (front c.walk_ruled-n.ensures).2

pub slice_bounds-give_paths-end-3 : goal.slice_bounds-give_paths-end-3
slice_bounds-give_paths-end-3 c = sym (front c.walk_ruled-n.ensures).1

pub give_paths-requires : goal.give_paths-requires
give_paths-requires c = let s = accepted _ (kept_got _ _ _ c.in_ok-check_links.ensures).1 in listing s.kept s.marks (front c.walk_ruled-n.ensures).0

pub returns : goal.returns
returns c = keeping_got _ _ _ c.in_ok-check_links.ensures (all_given _ _ _ (kept_got _ _ _ c.in_ok-check_links.ensures).1 (front c.walk_ruled-n.ensures).0 c.give_paths.ensures)
