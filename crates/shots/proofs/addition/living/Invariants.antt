-- What was counted, and the live marks that are left, is all.
use Rattle.shots.proofs.Additions.{Counting}
use Rattle.shots.proofs.addition.living.Given as goal

abbrev pub invariant-loop-mark : goal.invariant-loop-mark
invariant-loop-mark l = Counting l.marks l.n l.mark-index
