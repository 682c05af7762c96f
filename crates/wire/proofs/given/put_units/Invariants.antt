-- `wire::given::put_units`: the loop owes the units that are left. Assumes nothing.
use mathlib.Core.Path.{◌≡◌}
use Prim.Native.Nat.{◌+◌, ◌*◌}
use lib.ListN.{drop}
use Rattle.layout.proofs.laws.Writing.{Owes}
use Rattle.wire.specs.Given.{units_word}
use Rattle.wire.proofs.given.put_units.Given as goal

abbrev pub invariant-loop-unit : goal.invariant-loop-unit
invariant-loop-unit l = Owes l.out l.o (units_word (drop l.unit-index l.units)) l.initial.out l.at (units_word l.units) × (l.o ≡ l.at + l.unit-index * 2)
