-- The chosen value is a member of the whole list exactly where it is one of what is left.
use Rattle.panel.proofs.Members.{Seeks}
use Rattle.panel.proofs.member.is_member_by_steps.Given as goal

abbrev pub invariant-loop-step : goal.invariant-loop-step
invariant-loop-step l = Seeks l.code l.description l.chosen l.first l.count l.at l.left

abbrev pub decreases-loop-step : goal.decreases-loop-step
decreases-loop-step l = l.left
