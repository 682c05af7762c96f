-- Each place of the queue is one of all three lists.
use Rattle.std.proofs.Common.{◌<◌, length, get_or, arith}
use Rattle.shots.proofs.Falls.{clear_turn}
use Rattle.shots.proofs.deletion.end_all.Goals as goal

pub loop-place-preserved : goal.loop-place-preserved
loop-place-preserved c =
    let l = c.loop-place in
    let more = c.loop-place-test.true in
    let q = c.args.queue.now in
    let there : get_or c.args.queue.now c.loop-place.place-index 0 < length c.args.marks.now = c.requires.inside.inside l.place-index more in
    record {
      marks = clear_turn q l.place-index l.invariant.marks more there;
      first = clear_turn q l.place-index l.invariant.first more (omega (arith, c.requires.marks_in_bounds));
      next = clear_turn q l.place-index l.invariant.next more (omega (arith, c.requires.marks_in_bounds_2));
    }
