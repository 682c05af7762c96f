-- The loop owes what is kept of the entries that are left, which are as they were.
use Rattle.shots.proofs.Movings.{Moving}
use Rattle.shots.proofs.collection.keep_handles.Given as goal

abbrev pub invariant-loop-k : goal.invariant-loop-k
invariant-loop-k l = Moving (λ h. h) l.marks l.fn.handles l.handles l.n l.k
