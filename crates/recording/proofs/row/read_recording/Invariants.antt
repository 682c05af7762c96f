-- `recording::row::read_recording`: those counted, and those from the place on, are the row's. Assumes nothing.
use Rattle.std.proofs.Common.{◌-◌, length}
use Rattle.recording.proofs.Going.{Going}
use Rattle.recording.proofs.row.read_recording.Given as goal

abbrev pub invariant-loop-at : goal.invariant-loop-at
invariant-loop-at l = Going l.s l.at l.records

abbrev pub decreases-loop-at : goal.decreases-loop-at
decreases-loop-at l = length l.s - l.at
