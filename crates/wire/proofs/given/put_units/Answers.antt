-- `wire::given::put_units`: one unit more, in its two bytes. Assumes nothing.
use native.Mathlib.Omega.{arith}
use Rattle.layout.specs.Bytes.{bytes}
use Rattle.layout.proofs.laws.Numbers.{length_bytes}
use Rattle.layout.proofs.laws.Writing.{part, end, roomy}
use Rattle.wire.proofs.laws.Numbered.{units_none, units_step}
use Rattle.wire.proofs.given.put_units.Goals as goal

pub loop-unit-preserved : goal.loop-unit-preserved
loop-unit-preserved c =
    let l = c.loop-unit in
    let step = rw (← c.from.ensures) at (units_step c.args.units.now l.unit-index (omega arith)) in
    let w = l.invariant.0.long in
    let p = roomy (bytes 2 c.from.result) c.store-o.ensures (omega (arith, length_bytes 2 c.from.result)) in
    (part step l.invariant.0 p, omega (arith, p.place, length_bytes 2 c.from.result))

pub returns : goal.returns
returns c = end (units_none c.args.units.now c.loop-unit.unit-index (omega arith)) c.loop-unit.invariant.0
