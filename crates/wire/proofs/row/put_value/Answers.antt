-- `wire::row::put_value`: a string anew, any other value as it stands. Assumes nothing.
use mathlib.Core.Path.{ap}
use lib.ListN.{length, take, drop}
use native.Mathlib.Omega.{arith}
use Rattle.layout.proofs.laws.Numbers.{bytes_of}
use Rattle.layout.proofs.laws.Writing.{roomy}
use Rattle.wire.proofs.ValueLaws.{value_text, value_copied}
use Rattle.wire.proofs.row.put_value.Goals as goal

pub tidy_text_at-requires : goal.tidy_text_at-requires
tidy_text_at-requires c =
    let e = value_text c.args.code c.args.src.now c.args.at c.if-code-eq-STRING.true in
    record { at_value = rw e at c.requires.at_value; at_in_bounds = omega (arith, c.requires.tidy_in_bounds, rw e at c.requires.tidy_value) }

pub returns-then-code-eq-STRING : goal.returns-then-code-eq-STRING
returns-then-code-eq-STRING c = rw (value_text c.args.code c.args.src.now c.args.at c.if-code-eq-STRING.true) c.tidy_text_at.ensures

pub returns : goal.returns
returns c =
    let a = c.args in
    let v = value_copied a.code a.src.now a.at c.if-code-eq-STRING.false (bytes_of _ (λ i. (c.type_inv.src i).fits)) c.requires.at_value a.tidy c.requires.tidy_value in
    rw v.0 (roomy (take a.tidy (drop a.at a.src.now)) c.copy.ensures (omega (arith, c.requires.tidy_in_bounds, ap length v.0)))
