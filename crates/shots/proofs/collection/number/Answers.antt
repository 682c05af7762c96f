-- A live place is counted, and any other has no new one.
use Rattle.std.proofs.Common.{get_or, arith}
use Rattle.std.proofs.lemmas.Bool.{lt-ltb, le-ltb}
use Rattle.shots.proofs.Movings.{numbering_hit, numbering_skip, numbering_end}
use Rattle.shots.proofs.collection.number.Goals as goal
use Rattle.shots.proofs.collection.number.Goals.{then-mark-eq0, else-mark-eq0}

pub loop-k-preserved : goal.loop-k-preserved
loop-k-preserved c =
    let l = c.loop-k in
    let more = c.loop-k-test.true in
    let m = get_or c.args.marks.now l.k 0 in
    elim c.if-mark-eq0.branch [
      | then-mark-eq0 w ↦ rw (w.news-is, w.n-is) (numbering_skip l.invariant more (le-ltb 0 m (omega (arith, w.if-mark-eq0.true))))
      | else-mark-eq0 w ↦ rw (w.news-is, w.n-is) (numbering_hit l.invariant more (lt-ltb 0 m (omega (arith, w.if-mark-eq0.false))))
    ]

pub returns : goal.returns
returns c = numbering_end c.loop-k.invariant c.requires.marks_in_bounds c.loop-k-test.false
