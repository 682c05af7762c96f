-- Up to `at` stand containers that are passed over, and `last` is the last Data payload among them.
use Rattle.std.proofs.Common.{◌-◌, length}
use Rattle.session.proofs.Answered.{Passed}
use Rattle.session.proofs.search.search.Given as goal

abbrev pub invariant-loop-at : goal.invariant-loop-at
invariant-loop-at l = Passed l.number l.s l.at l.last

abbrev pub decreases-loop-at : goal.decreases-loop-at
decreases-loop-at l = length l.s - l.at
