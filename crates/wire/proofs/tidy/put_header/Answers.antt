-- `wire::tidy::put_header`: four writes in a row, the last of one byte or none. Assumes nothing.
use native.Mathlib.Omega.{arith}
use Rattle.layout.specs.Bytes.{bytes}
use Rattle.layout.proofs.laws.Writing.{roomy, then_roomy}
use Rattle.wire.specs.Codecs.{enable_write}
use Rattle.wire.specs.Property.{info_from, says_enable}
use Rattle.wire.specs.TidyProperty.{header_word}
use Rattle.wire.proofs.TidyWords.{header_size}
use Rattle.wire.proofs.tidy.put_header.Goals as goal

pub returns : goal.returns
unfolding header_word bytes
returns c =
    let p = c.args.p in
    let z = header_size (info_from p) in
    then_roomy (enable_write (says_enable p.is_enable))
    (then_roomy (bytes 1 p.get_set)
    (then_roomy (bytes 2 p.data_type)
    (roomy (bytes 2 p.property_code) c.store-a.ensures (omega (arith, c.requires)))
    c.store-b.ensures (omega (arith, c.requires)))
    c.store-c.ensures (omega (arith, c.requires)))
    c.put_enable.ensures (omega (arith, c.requires))
