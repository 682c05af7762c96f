-- Those below the place that the loop is at are as they shall be, the others as they were.
use Rattle.std.proofs.Common.{slice_set}
use Rattle.shots.proofs.Endings.{Ending}
use Rattle.shots.proofs.deletion.fall.Given as goal

abbrev pub invariant-loop-k : goal.invariant-loop-k
invariant-loop-k l = Ending l.parents l.place (slice_set l.fn.marks l.place 0) l.marks l.k
