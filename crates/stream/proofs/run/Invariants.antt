-- Once a turn was taken, the last one answered that another follows. Assumes nothing.
use Rattle.std.proofs.Common.{◌<◌}
use Rattle.stream.specs.Came.{Answered}
use Rattle.stream.proofs.run.Given as goal

abbrev pub invariant-loop : goal.invariant-loop
invariant-loop g l = 0 < l.counter → Answered g.T.Turns.answers 0
