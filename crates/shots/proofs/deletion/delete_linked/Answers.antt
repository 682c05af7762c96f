-- The kept table is accepted, the place can be deleted, and it falls down the links.
use Rattle.std.proofs.lemmas.Result.{err_from_is_err_and}
use mathlib.Core.Bool.{and-eq-true_iff}
use mathlib.Core.Path.{sym, ◌∙◌}
use native.Mathlib.Omega.{arith}
use borrow.Author.Tests.{ltb-true}
use Rattle.tree.proofs.laws.Kept.{kept_got}
use Rattle.tree.proofs.laws.Links.{ok_links}
use Rattle.tree.proofs.laws.Sound.{accepted, rows_long, marks_long}
use Rattle.shots.proofs.Relinks.{unlinked_refused, unlinked_no, unlinked_done}
use Rattle.shots.proofs.deletion.delete_linked.Goals as goal

pub returns-in_err-check_links : goal.returns-in_err-check_links
returns-in_err-check_links c =
    let p = err_from_is_err_and c.from_residual.result c.from_residual.ensures.1 in
    rw (p.1, p.2) (unlinked_refused _ _ _ _ c.in_err-check_links.ensures)

pub slice_bounds-may_end-end : goal.slice_bounds-may_end-end
slice_bounds-may_end-end c = let s = accepted _ (kept_got _ _ _ c.in_ok-check_links.ensures).1 in omega (arith, s.few, s.flagged)

pub slice_bounds-may_end-end-2 : goal.slice_bounds-may_end-end-2
slice_bounds-may_end-end-2 c = marks_long (accepted _ (kept_got _ _ _ c.in_ok-check_links.ensures).1)

pub returns-then-not-may_end : goal.returns-then-not-may_end
returns-then-not-may_end c = unlinked_no _ _ _ _ c.in_ok-check_links.ensures (sym c.may_end.ensures ∙ c.if-not-may_end.true) c.plain.ensures

pub slice_bounds-fall_linked-end : goal.slice_bounds-fall_linked-end
slice_bounds-fall_linked-end c = rows_long (accepted _ (kept_got _ _ _ c.in_ok-check_links.ensures).1)

pub fall_linked-requires : goal.fall_linked-requires
fall_linked-requires c =
    let k = kept_got _ _ _ c.in_ok-check_links.ensures in
    let s = accepted _ k.1 in
    let n = rows_long s in
    let m = (and-eq-true_iff _ _).0 (sym c.may_end.ensures ∙ c.if-not-may_end.false) in
    record {
      ruled = s.kept.ruling;
      marks_len = s.flagged;
      marks = rw (← n) s.marks;
      links = rw (← n) (ok_links s k.0);
      place_nonzero = ltb-true _ _ m.0;
      place_value = rw (← n) m.1;
    }

pub returns : goal.returns
returns c =
    let n = rows_long (accepted _ (kept_got _ _ _ c.in_ok-check_links.ensures).1) in
    let f = rw (← n) at c.fall_linked.ensures in
    unlinked_done _ _ _ _ c.in_ok-check_links.ensures (sym c.may_end.ensures ∙ c.if-not-may_end.false) f.0 f.1
