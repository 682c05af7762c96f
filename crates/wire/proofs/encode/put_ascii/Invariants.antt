-- `wire::encode::put_ascii`: the loop owes the units that are left, each of which is its own byte. Assumes nothing.
use Prim.Native.Nat.{◌+◌, ◌-◌, ◌*◌}
use lib.ListN.{drop}
use Rattle.layout.specs.Bytes.{cells}
use Rattle.layout.proofs.laws.Writing.{Owes}
use Rattle.wire.specs.Utf8.{NoneAbove}
use Rattle.wire.proofs.encode.put_ascii.Given as goal

abbrev pub invariant-loop-i : goal.invariant-loop-i
invariant-loop-i l =
    Owes l.out (l.o + l.i) (cells 2 (l.count - l.i) (drop (l.start + l.i * 2) l.s)) l.initial.out l.o (cells 2 l.count (drop l.start l.s)) × NoneAbove 0x7F (cells 2 (l.count - l.i) (drop (l.start + l.i * 2) l.s))
