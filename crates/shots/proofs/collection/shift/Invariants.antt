-- What stands at and behind the place that is read is as it was.
use Rattle.shots.proofs.Movings.{Shifting}
use Rattle.shots.proofs.collection.shift.Given as goal

abbrev pub invariant-loop-i : goal.invariant-loop-i
invariant-loop-i l = Shifting l.from l.n l.o l.fn.names l.names l.i
