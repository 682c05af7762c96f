-- The parent is live, the name is one, and there is room.
use Rattle.std.proofs.lemmas.Result.{err_from_is_err_and}
use mathlib.Core.Path.{◌≡◌}
use native.Mathlib.Omega.{arith}
use borrow.Author.Tests.{lt-ltb, le-ltb}
use lib.ListN.{get_or, get_or-eq_default}
use Rattle.shots.proofs.Replies.{object_place, object_name, object_room}
use Rattle.shots.proofs.addition.check_object.Goals as goal

pub returns-then-marks-parent : goal.returns-then-marks-parent
returns-then-marks-parent c =
    let z : get_or c.args.marks.now c.args.parent 0 ≡ 0 = get_or-eq_default c.args.marks.now 0 (omega (arith, c.if-marks-parent.true)) in
    object_place c.args.marks.now c.args.ends.now c.args.names.now c.args.parent c.args.name.now (le-ltb 0 (get_or c.args.marks.now c.args.parent 0) (omega arith)) c.plain.ensures

pub returns-then-marks-parent-eq0 : goal.returns-then-marks-parent-eq0
returns-then-marks-parent-eq0 c = object_place c.args.marks.now c.args.ends.now c.args.names.now c.args.parent c.args.name.now (le-ltb 0 (get_or c.args.marks.now c.args.parent 0) (omega (arith, c.if-marks-parent-eq0.true))) c.plain-then-marks-parent-eq0.ensures

pub returns-in_err-check_name : goal.returns-in_err-check_name
returns-in_err-check_name c =
    let p = err_from_is_err_and c.from_residual.result c.from_residual.ensures.1 in
    rw (p.1, p.2) (object_name c.args.marks.now c.args.ends.now c.args.names.now c.args.parent c.args.name.now (lt-ltb 0 (get_or c.args.marks.now c.args.parent 0) (omega (arith, c.if-marks-parent-eq0.false))) c.in_err-check_name.ensures)

pub returns : goal.returns
returns c = object_room c.args.marks.now c.args.ends.now c.args.names.now c.args.parent c.args.name.now (lt-ltb 0 (get_or c.args.marks.now c.args.parent 0) (omega (arith, c.if-marks-parent-eq0.false))) c.in_ok-check_name.ensures c.check_room.ensures
