-- The loop owes the data of the packets that are left.
use Rattle.std.proofs.Common.{◌-◌, length}
use Rattle.network.proofs.PutLaws.{Piecing}
use Rattle.network.proofs.put.put_pieces.Given as goal

abbrev pub invariant-loop-i : goal.invariant-loop-i
invariant-loop-i l = Piecing l.s l.out l.o l.i l.fn.out l.fn.at

abbrev pub decreases-loop-i : goal.decreases-loop-i
decreases-loop-i l = length l.s - l.i
