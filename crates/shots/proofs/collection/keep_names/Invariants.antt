-- The loop owes the live names that are left, whose bytes are as they were.
use Rattle.shots.proofs.Movings.{Naming}
use Rattle.shots.proofs.collection.keep_names.Given as goal

abbrev pub invariant-loop-k : goal.invariant-loop-k
invariant-loop-k l = Naming l.marks l.ends l.fn.names l.names l.o l.from l.k
