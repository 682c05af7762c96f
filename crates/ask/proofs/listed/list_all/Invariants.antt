-- `ask::listed::list_all`: what is left of the recording falls.
use Rattle.std.proofs.Common.{length, ◌-◌}
use Rattle.ask.proofs.listed.list_all.Given as goal

abbrev pub decreases-loop-from : goal.decreases-loop-from
decreases-loop-from l = length l.src - l.from
