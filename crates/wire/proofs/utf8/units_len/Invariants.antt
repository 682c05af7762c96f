-- `wire::utf8::units_len`: what was counted, and what is left to count, is what each unit gives. Assumes nothing.
use mathlib.Core.Path.{◌≡◌}
use Prim.Native.Nat.{◌≤◌, ◌+◌, ◌-◌, ◌*◌}
use lib.ListN.{drop}
use Rattle.layout.specs.Bytes.{cells}
use Rattle.wire.proofs.Lengths.{units_len}
use Rattle.wire.proofs.utf8.units_len.Given as goal

abbrev pub invariant-loop-i : goal.invariant-loop-i
invariant-loop-i l = (l.need + units_len (cells 2 (l.count - l.i) (drop (l.start + l.i * 2) l.s)) ≡ units_len (cells 2 l.count (drop l.start l.s))) × (l.need ≤ l.i * 3)
