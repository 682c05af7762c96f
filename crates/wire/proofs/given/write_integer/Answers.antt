-- `wire::given::write_integer`: the two parts of its bytes, where both have room. Assumes nothing.
use mathlib.Core.Path.{◌≡◌, ◌∙◌, ap, sym}
use Prim.Native.Nat.{◌+◌}
use lib.ListN.{length}
use Rattle.std.proofs.Common.{length-append}
use native.Mathlib.Omega.{arith}
use Rattle.layout.specs.Bytes.{bytes}
use Rattle.layout.specs.Written.{says}
use Rattle.layout.proofs.laws.Numbers.{length_bytes}
use Rattle.layout.proofs.laws.Writing.{no_room, done, roomy, then_roomy}
use Rattle.wire.specs.Given.{integer_bits}
use Rattle.wire.proofs.given.write_integer.Goals as goal

pub returns-then-out-b : goal.returns-then-out-b
returns-then-out-b c =
    let b = c.bits_of-b.result in
    let long : length (integer_bits b) ≡ b.front + b.back = length-append (bytes b.front b.low) (bytes b.back b.high) ∙ omega (arith, length_bytes b.front b.low, length_bytes b.back b.high) in
    no_room (ap says (sym c.bits_of-b.ensures.0)) (omega arith) c.plain.ensures

pub returns : goal.returns
returns c =
    let b = c.bits_of-b.result in
    let f = length_bytes b.front b.low in
    let k = length_bytes b.back b.high in
    let long : length (integer_bits b) ≡ b.front + b.back = length-append (bytes b.front b.low) (bytes b.back b.high) ∙ omega arith in
    done (ap says (sym c.bits_of-b.ensures.0)) (omega arith)
    (then_roomy (bytes b.back b.high) (roomy (bytes b.front b.low) c.store-a.ensures (omega arith)) c.store.ensures (omega arith))
