-- Two halves of eight bytes each, the low one first. Assumes nothing.
use mathlib.Core.Path.{◌∙◌, sym, ap, refl}
use native.Mathlib.Omega.{arith}
use Rattle.layout.specs.Answer.{got}
use Rattle.layout.proofs.laws.Reading.{span_within, field_got, field_refused, meant, not_meant}
use Rattle.wire.specs.Layout.{meaning, wide}
use Rattle.wire.proofs.Twos.{halves}
use Rattle.wire.proofs.field.wide_at.Goals as goal

pub word-low-requires : goal.word-low-requires
word-low-requires c = let h = span_within _ _ _ _ _ c.in_ok-next.ensures in omega (arith, h)

pub overflow_add-at : goal.overflow_add-at
overflow_add-at c = let h = span_within _ _ _ _ _ c.in_ok-next.ensures in omega (arith, h)

pub word-high-requires : goal.word-high-requires
word-high-requires c = let h = span_within _ _ _ _ _ c.in_ok-next.ensures in omega (arith, h)

pub returns : goal.returns
returns c =
    let a = c.args in
    let span = c.in_ok-next.ensures in
    let e = halves a.s.now a.at c.word-high.result c.word-low.result (span_within a.at 16 a.s.now a.at _ span).0 c.word-high.ensures.0 c.word-low.ensures.0 c.word-low.ensures.1 in
    ap (λ x. got x c.in_ok-next.next.at) (sym e) ∙ meant (meaning wide) (field_got 16 _ a.s.now a.at _ _ refl span)
