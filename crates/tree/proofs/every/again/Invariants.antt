-- `tree::every::again`: what lies before the place is as it was. Assumes nothing.
use Rattle.tree.proofs.Copied.{Copying}
use Rattle.tree.proofs.every.again.Given as goal

abbrev pub invariant-loop-i : goal.invariant-loop-i
invariant-loop-i l = Copying l.from l.n l.o l.initial.out l.out l.i
