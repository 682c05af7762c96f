-- What was counted, and the live names that are left, is all.
use Rattle.shots.proofs.Additions.{Sparing}
use Rattle.shots.proofs.addition.spare.Given as goal

abbrev pub invariant-loop-k : goal.invariant-loop-k
invariant-loop-k l = Sparing l.marks l.ends l.names l.o l.from l.k
