-- The loop owes the places that are left.
use Rattle.shots.proofs.Additions.{Owning}
use Rattle.shots.proofs.addition.own.Given as goal

abbrev pub invariant-loop-k : goal.invariant-loop-k
invariant-loop-k l = Owning l.count l.fn.news l.news l.k
