-- `wire::given::write_items`: a part of an item, too many, no room, or the count and the items. Assumes nothing.
use mathlib.Core.Path.{◌∙◌, ap, sym}
use Prim.Native.Nat.{◌/◌}
use lib.ListN.{length}
use lib.Seq.{take-length}
use Rattle.std.proofs.Common.{length-append}
use native.Mathlib.Omega.{arith}
use Rattle.layout.specs.Bytes.{bytes}
use Rattle.layout.specs.Written.{no}
use Rattle.layout.proofs.laws.Numbers.{bytes_of, length_bytes}
use Rattle.layout.proofs.laws.Writing.{refusal, no_room, done, roomy, then_roomy}
use Rattle.wire.proofs.laws.Numbered.{said_part, said_many, said_items}
use Rattle.wire.proofs.given.write_items.Goals as goal

pub returns-then-size-w-ne0 : goal.returns-then-size-w-ne0
returns-then-size-w-ne0 c = refusal (said_part c.args.w c.args.items.now c.requires c.if-size-w-ne0.true ∙ ap no (sym c.plain.ensures))

pub returns-then-n-gt4294967295 : goal.returns-then-n-gt4294967295
returns-then-n-gt4294967295 c =
    refusal (said_many c.args.w c.args.items.now c.requires c.if-size-w-ne0.false c.if-n-gt4294967295.true ∙ ap no (sym c.plain-then-n-gt4294967295.ensures))

pub returns-then-out-size : goal.returns-then-out-size
returns-then-out-size c =
    let bs = c.args.items.now in
    let b = bytes_of bs (λ i. (c.type_inv.items i).fits) in
    no_room (said_items c.args.w bs c.requires c.if-size-w-ne0.false b c.if-n-gt4294967295.false)
    (omega (arith, length-append (bytes 4 (length bs / c.args.w)) bs, length_bytes 4 (length bs / c.args.w))) c.plain-then-out-size.ensures

pub returns : goal.returns
returns c =
    let bs = c.args.items.now in
    let b = bytes_of bs (λ i. (c.type_inv.items i).fits) in
    let n = length_bytes 4 (length bs / c.args.w) in
    let all = length-append (bytes 4 (length bs / c.args.w)) bs in
    done (said_items c.args.w bs c.requires c.if-size-w-ne0.false b c.if-n-gt4294967295.false) (omega arith)
    (then_roomy bs (roomy (bytes 4 (length bs / c.args.w)) c.store-a.ensures (omega arith)) (rw (take-length bs) at c.copy.ensures) (omega arith))
