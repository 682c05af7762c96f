-- The loop owes the new places of the marks that are left.
use Rattle.shots.proofs.Movings.{Numbering}
use Rattle.shots.proofs.collection.number.Given as goal

abbrev pub invariant-loop-k : goal.invariant-loop-k
invariant-loop-k l = Numbering l.marks l.fn.news l.news l.n l.k
