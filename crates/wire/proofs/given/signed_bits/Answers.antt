-- `wire::given::signed_bits`: the word's bits. Assumes nothing.
use mathlib.Core.Path.{◌∙◌, ap}
use Prim.Native.Nat.{◌^◌}
use mir.Syntax.{w64}
use mir.ValLaws.{to_z-of_z}
use Rattle.wire.specs.Codecs.{unsigned}
use Rattle.wire.proofs.given.signed_bits.Goals as goal

pub returns : goal.returns
returns c =
    let b = c.unsigned_bits.ensures in
    (b.0, b.1 ∙ c.signed_word.ensures ∙ ap (unsigned (2 ^ 64)) (to_z-of_z w64 c.args.z c.ranges.z), b.2)
