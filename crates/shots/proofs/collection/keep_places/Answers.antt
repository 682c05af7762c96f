-- The entry of a live place is moved down, any other is passed over.
use Rattle.std.proofs.Common.{get_or, arith}
use Rattle.std.proofs.lemmas.Bool.{lt-ltb, le-ltb}
use Rattle.shots.proofs.Movings.{moving_reads, moving_hit, moving_skip, moving_end}
use Rattle.shots.proofs.collection.keep_places.Goals as goal
use Rattle.shots.proofs.collection.keep_places.Goals.{then-mark-ne0, else-mark-ne0}

pub bounds-news-p : goal.bounds-news-p
bounds-news-p c = omega (arith, c.requires.hung.hung c.loop-k.k c.loop-k-test.true, moving_reads c.loop-k.invariant c.requires.marks_in_bounds)

pub loop-k-preserved : goal.loop-k-preserved
loop-k-preserved c =
    let l = c.loop-k in
    let more = c.loop-k-test.true in
    let m = get_or c.args.marks.now l.k 0 in
    elim c.if-mark-ne0.branch [
      | then-mark-ne0 w ↦ rw (w.list-is, w.n-is) (moving_hit l.invariant c.requires.marks_in_bounds more (lt-ltb 0 m (omega (arith, w.if-mark-ne0.true))))
      | else-mark-ne0 w ↦ rw (w.list-is, w.n-is) (moving_skip l.invariant c.requires.marks_in_bounds more (le-ltb 0 m (omega (arith, w.if-mark-ne0.false))))
    ]

pub returns : goal.returns
returns c = moving_end c.loop-k.invariant c.requires.marks_in_bounds c.loop-k-test.false
