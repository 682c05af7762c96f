-- `wire::text::copy_units`: the loop owes the units that are left. Assumes nothing.
use Prim.Native.Nat.{◌+◌, ◌-◌, ◌*◌}
use lib.ListN.{drop}
use Rattle.layout.specs.Bytes.{cells}
use Rattle.layout.proofs.laws.Writing.{Owes}
use Rattle.wire.proofs.text.copy_units.Given as goal

abbrev pub invariant-loop-i : goal.invariant-loop-i
invariant-loop-i l = Owes l.out l.i (cells 2 (l.count - l.i) (drop (l.start + l.i * 2) l.s)) l.initial.out 0 (cells 2 l.count (drop l.start l.s))
