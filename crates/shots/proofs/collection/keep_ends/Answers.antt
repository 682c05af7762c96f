-- The end of a live name is moved down, any other is passed over.
use Rattle.std.proofs.Common.{get_or, arith}
use Rattle.std.proofs.lemmas.Bool.{lt-ltb, le-ltb}
use Rattle.shots.proofs.Movings.{bounding_hit, bounding_skip, bounding_end}
use Rattle.shots.proofs.collection.keep_ends.Goals as goal
use Rattle.shots.proofs.collection.keep_ends.Goals.{then-mark-ne0, else-mark-ne0}

pub loop-k-preserved : goal.loop-k-preserved
loop-k-preserved c =
    let l = c.loop-k in
    let more = c.loop-k-test.true in
    let up = c.requires.rises.rises l.k more in
    let m = get_or c.args.marks.now l.k 0 in
    elim c.if-mark-ne0.branch [
      | then-mark-ne0 w ↦ rw (w.ends-is, w.n-is, w.at-is, w.from-is) (bounding_hit l.invariant c.requires.marks_in_bounds more up (lt-ltb 0 m (omega (arith, w.if-mark-ne0.true))))
      | else-mark-ne0 w ↦ rw (w.ends-is, w.n-is, w.at-is, w.from-is) (bounding_skip l.invariant c.requires.marks_in_bounds more up (le-ltb 0 m (omega (arith, w.if-mark-ne0.false))))
    ]

pub returns : goal.returns
returns c = bounding_end c.loop-k.invariant c.requires.marks_in_bounds c.loop-k-test.false
