-- `layout::write::copy_all`: the loop owes the bytes that are left. Assumes nothing.
use Rattle.std.proofs.Common.{◌-◌, ◌+◌}
use lib.ListN.{take, drop}
use Rattle.layout.proofs.laws.Writing.{Owes}
use Rattle.layout.proofs.write.copy_all.Given as goal

abbrev pub invariant-loop-i : goal.invariant-loop-i
invariant-loop-i l = Owes l.out (l.at + l.i) (take (l.n - l.i) (drop (l.a + l.i) l.src)) l.initial.out l.at (take l.n (drop l.a l.src))
