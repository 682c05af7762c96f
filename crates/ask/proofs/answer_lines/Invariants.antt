-- `ask::answer_lines`: what is left of the lines falls.
use Rattle.std.proofs.Common.{◌-◌}
use Rattle.ask.proofs.answer_lines.Given as goal

abbrev pub decreases-loop-stop : goal.decreases-loop-stop
decreases-loop-stop l = l.end - l.seen
