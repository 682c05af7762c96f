-- `mending::search::run_end`: records stand one after the other up to the place, and the room that is left goes with them. Assumes nothing.
use Rattle.std.proofs.Common.{◌≡◌, ◌+◌, ◌-◌, ◌≤◌, length}
use Rattle.mending.specs.Passed.{Keeps}
use Rattle.mending.proofs.search.run_end.Given as goal

abbrev pub invariant-loop-end : goal.invariant-loop-end
invariant-loop-end l = Keeps l.s l.from l.end l.records × (l.from ≤ l.end) × (l.end ≤ length l.s) × (l.left + (l.end - l.from) ≡ l.room) × (l.records ≤ l.end - l.from)

abbrev pub decreases-loop-end : goal.decreases-loop-end
decreases-loop-end l = length l.s - l.end
