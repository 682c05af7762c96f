-- At the first of these places stands 0, in all three lists.
use Rattle.std.proofs.Common.{take}
use Rattle.shots.specs.Facts.{Cleared}
use Rattle.shots.proofs.deletion.end_all.Given as goal

abbrev pub invariant-loop-place : goal.invariant-loop-place
invariant-loop-place l = record {
  marks : Cleared (take l.place-index l.queue) l.fn.marks l.marks;
  first : Cleared (take l.place-index l.queue) l.fn.first l.first;
  next : Cleared (take l.place-index l.queue) l.fn.next l.next;
}
