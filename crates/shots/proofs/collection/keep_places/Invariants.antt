-- The loop owes what is kept of the entries that are left, which are as they were.
use Rattle.std.proofs.Common.{get_or}
use Rattle.shots.proofs.Movings.{Moving}
use Rattle.shots.proofs.collection.keep_places.Given as goal

abbrev pub invariant-loop-k : goal.invariant-loop-k
invariant-loop-k l = Moving (λ p. get_or l.news p 0) l.marks l.fn.list l.list l.n l.k
