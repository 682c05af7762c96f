-- `wire::given::units_paired`: what is left pairs after the last unit exactly when all do. Assumes nothing.
use mathlib.Core.Path.{◌≡◌}
use lib.ListN.{drop}
use Rattle.wire.specs.Layout.{pairs}
use Rattle.wire.proofs.given.units_paired.Given as goal

abbrev pub invariant-loop-unit : goal.invariant-loop-unit
invariant-loop-unit l = pairs l.last (drop l.unit-index l.units) ≡ pairs 0 l.units
