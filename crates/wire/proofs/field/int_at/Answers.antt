-- The number that `num_at` reads, signed. Assumes nothing.
use mathlib.Core.Path.{ap, ◌∙◌}
use Prim.Native.Nat.{◌^◌}
use Rattle.layout.specs.Answer.{got}
use Rattle.layout.proofs.laws.Reading.{meant, not_meant}
use Rattle.wire.specs.Layout.{signed}
use Rattle.wire.proofs.Twos.{signed_wide}
use Rattle.wire.proofs.field.int_at.Goals as goal

pub returns : goal.returns
returns c =
    let small = c.in_ok-v.ensures.small in
    let same = signed_wide c.args.half c.in_ok-v.v c.sign.result c.sign.ensures (rw c.requires.2 small) c.requires.1 in
    let signs = same ∙ rw c.requires.2 at c.sign.ensures in
    record {
      says = ap (λ z. got z c.in_ok-v.next.at) signs ∙ meant (signed (256 ^ c.args.w)) c.in_ok-v.ensures.says;
      small = (c.in_ok-v.v, signs, small);
    }
