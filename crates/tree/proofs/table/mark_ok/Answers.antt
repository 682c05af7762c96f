-- `tree::table::mark_ok`: each answer by the test that led there. Assumes nothing.
use native.Mathlib.Omega.{arith}
use borrow.Author.Tests.{lt-ltb, le-ltb}
use lib.ListN.{get_or}
use Rattle.tree.proofs.table.mark_ok.Goals as goal

pub returns-then-marks-k-eq0 : goal.returns-then-marks-k-eq0
returns-then-marks-k-eq0 c =
    let a = c.args in
    rw (le-ltb 0 (get_or a.marks.now a.k 0) (omega (arith, c.if-marks-k-eq0.true)))

pub returns : goal.returns
returns c =
    let a = c.args in
    rw (lt-ltb 0 (get_or a.marks.now a.k 0) (omega (arith, c.if-marks-k-eq0.false)))
