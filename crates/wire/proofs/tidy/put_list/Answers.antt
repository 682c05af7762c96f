-- `wire::tidy::put_list`: three writes in a row. Assumes nothing.
use native.Mathlib.Omega.{arith}
use Rattle.std.proofs.Common.{length-append}
use Rattle.layout.specs.Bytes.{bytes}
use Rattle.layout.proofs.laws.Numbers.{length_bytes}
use Rattle.layout.proofs.laws.Writing.{long, then, roomy, then_roomy}
use Rattle.wire.specs.TidyProperty.{list_word}
use Rattle.wire.proofs.TidyWords.{list_size}
use Rattle.wire.proofs.tidy.put_list.Goals as goal

pub put_values-requires : goal.put_values-requires
put_values-requires c =
    let a = c.args in
    let z = list_size a.code a.src.now a.at a.n in
    let q = then_roomy (bytes 2 a.n) (roomy (bytes 1 2) c.store-i.ensures (omega (arith, c.requires.n_in_bounds, length_bytes 1 2))) c.store-j.ensures (omega (arith, c.requires.n_in_bounds, length_bytes 1 2, length_bytes 2 a.n)) in
    record { at_value = c.requires.at_value; at_in_bounds = omega (arith, c.requires.n_in_bounds, simp (length-append, length_bytes) at q.place, long q) }

pub returns : goal.returns
unfolding list_word
returns c =
    let a = c.args in
    let z = list_size a.code a.src.now a.at a.n in
    then (then_roomy (bytes 2 a.n) (roomy (bytes 1 2) c.store-i.ensures (omega (arith, c.requires.n_in_bounds, length_bytes 1 2))) c.store-j.ensures (omega (arith, c.requires.n_in_bounds, length_bytes 1 2, length_bytes 2 a.n)))
    c.put_values.ensures
