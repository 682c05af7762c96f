-- A live mark is counted, any other is passed over.
use Rattle.std.proofs.Common.{get_or, arith}
use Rattle.std.proofs.lemmas.Bool.{lt-ltb, le-ltb}
use Rattle.shots.proofs.Additions.{counting_hit, counting_skip, counting_end}
use Rattle.shots.proofs.addition.living.Goals as goal
use Rattle.shots.proofs.addition.living.Goals.{then-mark-ne0, else-mark-ne0}

pub loop-mark-preserved : goal.loop-mark-preserved
loop-mark-preserved c =
    let l = c.loop-mark in
    let more = c.loop-mark-test.true in
    let m = get_or c.args.marks.now l.mark-index 0 in
    elim c.if-mark-ne0.branch [
      | then-mark-ne0 w ↦ rw w.n-is (counting_hit l.invariant more (lt-ltb 0 m (omega (arith, w.if-mark-ne0.true))))
      | else-mark-ne0 w ↦ rw w.n-is (counting_skip l.invariant more (le-ltb 0 m (omega (arith, w.if-mark-ne0.false))))
    ]

pub returns : goal.returns
returns c = counting_end c.loop-mark.invariant c.loop-mark-test.false
