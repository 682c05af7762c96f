-- `wire::write::put_text`: three writes in a row, of which the second copies the units. Assumes nothing.
use Prim.Native.Nat.{◌+◌, ◌*◌}
use lib.ListN.{take, drop, length-append}
use native.Mathlib.Omega.{arith}
use Rattle.layout.specs.Bytes.{bytes}
use Rattle.layout.proofs.laws.Numbers.{bytes_of, length_bytes}
use Rattle.layout.proofs.laws.Writing.{then_roomy, roomy}
use Rattle.wire.proofs.Spelled.{text_none, size_none, text_some, size_some, units_size}
use Rattle.wire.proofs.write.put_text.Goals as goal

pub returns-then-count-eq0 : goal.returns-then-count-eq0
returns-then-count-eq0 c =
    let a = c.args in
    let e = size_none a.src.now a.start a.count c.if-count-eq0.true in
    rw (text_none a.src.now a.start a.count c.if-count-eq0.true) (roomy (bytes 1 0) c.store.ensures (omega (arith, c.requires.src_in_bounds, length_bytes 1 0)))

pub returns : goal.returns
returns c =
    let a = c.args in
    let h = bytes_of a.src.now (λ i. (c.type_inv.src i).fits) in
    let all = size_some a.src.now a.start a.count h c.requires.count_in_bounds c.if-count-eq0.false in
    let units = units_size a.src.now a.start a.count h c.requires.count_in_bounds c.if-count-eq0.false in
    let n = length_bytes 1 (a.count + 1) in
    rw (text_some a.src.now a.start a.count h c.requires.count_in_bounds c.if-count-eq0.false)
    (then_roomy (bytes 2 0)
    (then_roomy (take (a.count * 2) (drop a.start a.src.now))
    (roomy (bytes 1 (a.count + 1)) c.store-a.ensures (omega (arith, c.requires.src_in_bounds)))
    c.copy-b.ensures (omega (arith, c.requires.src_in_bounds)))
    c.store-2.ensures (omega (arith, c.requires.src_in_bounds, length-append (bytes 1 (a.count + 1)) (take (a.count * 2) (drop a.start a.src.now)), length_bytes 2 0)))
