-- `wire::tidy::put_range`: four writes in a row. Assumes nothing.
use native.Mathlib.Omega.{arith}
use Rattle.std.proofs.Common.{length-append}
use Rattle.layout.specs.Bytes.{bytes}
use Rattle.layout.proofs.laws.Numbers.{length_bytes}
use Rattle.layout.proofs.laws.Writing.{long, then, roomy}
use Rattle.wire.specs.TidyProperty.{range_word}
use Rattle.wire.proofs.TidyWords.{range_size}
use Rattle.wire.proofs.tidy.put_range.Goals as goal

pub put_values-j-requires : goal.put_values-j-requires
put_values-j-requires c =
    let a = c.args in
    let z = range_size a.code a.src.now a.a a.b a.c in
    let q = roomy (bytes 1 1) c.store-i.ensures (omega (arith, c.requires.c_in_bounds, length_bytes 1 1)) in
    record { at_value = c.requires.well3.0; at_in_bounds = omega (arith, c.requires.c_in_bounds, q.place, long q, length_bytes 1 1) }

pub put_values-k-requires : goal.put_values-k-requires
put_values-k-requires c =
    let a = c.args in
    let z = range_size a.code a.src.now a.a a.b a.c in
    let q = then (roomy (bytes 1 1) c.store-i.ensures (omega (arith, c.requires.c_in_bounds, length_bytes 1 1))) c.put_values-j.ensures in
    record { at_value = c.requires.well3.1; at_in_bounds = omega (arith, c.requires.c_in_bounds, simp (length-append, length_bytes) at q.place, long q) }

pub put_values-requires : goal.put_values-requires
put_values-requires c =
    let a = c.args in
    let z = range_size a.code a.src.now a.a a.b a.c in
    let q = then (then (roomy (bytes 1 1) c.store-i.ensures (omega (arith, c.requires.c_in_bounds, length_bytes 1 1))) c.put_values-j.ensures) c.put_values-k.ensures in
    record { at_value = c.requires.well3.2; at_in_bounds = omega (arith, c.requires.c_in_bounds, simp (length-append, length_bytes) at q.place, long q) }

pub returns : goal.returns
unfolding range_word
returns c =
    let a = c.args in
    let z = range_size a.code a.src.now a.a a.b a.c in
    then (then (then (roomy (bytes 1 1) c.store-i.ensures (omega (arith, c.requires.c_in_bounds, length_bytes 1 1))) c.put_values-j.ensures) c.put_values-k.ensures) c.put_values.ensures
