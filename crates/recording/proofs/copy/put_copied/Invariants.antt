-- `recording::copy::put_copied`: what is still to be written goes on from the place. Assumes nothing.
use Prim.Native.Nat.{◌-◌}
use lib.ListN.{length}
use Rattle.recording.proofs.Placed.{Going}
use Rattle.recording.proofs.copy.put_copied.Given as goal

abbrev pub invariant-loop-at : goal.invariant-loop-at
invariant-loop-at l = Going l.s l.fn.out l.out l.at l.o

abbrev pub decreases-loop-at : goal.decreases-loop-at
decreases-loop-at l = length l.s - l.at
