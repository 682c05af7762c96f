-- The loop owes the ends of the live names that are left.
use Rattle.shots.proofs.Movings.{Bounding}
use Rattle.shots.proofs.collection.keep_ends.Given as goal

abbrev pub invariant-loop-k : goal.invariant-loop-k
invariant-loop-k l = Bounding l.marks l.fn.ends l.ends l.n l.at l.from l.k
