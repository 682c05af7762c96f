-- `wire::given::put_text`: the count, the units, and the last unit. Assumes nothing.
use mathlib.Core.Path.{ap}
use Prim.Native.Nat.{◌+◌}
use lib.ListN.{length}
use native.Mathlib.Omega.{arith}
use Rattle.std.proofs.Common.{length-append}
use Rattle.layout.specs.Bytes.{bytes}
use Rattle.layout.proofs.laws.Numbers.{length_bytes}
use Rattle.layout.proofs.laws.Writing.{long, then, roomy, then_roomy}
use Rattle.wire.specs.Given.{units_word}
use Rattle.wire.proofs.laws.Numbered.{units_size, given_none, given_some, some_size}
use Rattle.wire.proofs.given.put_text.Goals as goal

pub returns-then-n-eq0 : goal.returns-then-n-eq0
returns-then-n-eq0 c =
    let e = given_none c.args.units.now c.if-n-eq0.true in
    rw e (roomy (bytes 1 0) c.store.ensures (omega (arith, ap length e)))

pub put_units-b-requires : goal.put_units-b-requires
put_units-b-requires c =
    let us = c.args.units.now in
    let s = some_size us c.if-n-eq0.false in
    let p = roomy (bytes 1 (length us + 1)) c.store-a.ensures (omega (arith, length_bytes 1 (length us + 1))) in
    omega (arith, p.place, long p, length_bytes 1 (length us + 1))

pub returns : goal.returns
returns c =
    let us = c.args.units.now in
    let s = some_size us c.if-n-eq0.false in
    let n = length_bytes 1 (length us + 1) in
    let u = units_size us in
    rw (given_some us c.if-n-eq0.false)
    (then_roomy (bytes 2 0) (then (roomy (bytes 1 (length us + 1)) c.store-a.ensures (omega arith)) c.put_units-b.ensures) c.store-2.ensures
    (omega (arith, length-append (bytes 1 (length us + 1)) (units_word us), length_bytes 2 0)))
