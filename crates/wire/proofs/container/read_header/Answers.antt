-- Length and kind in one span, the kind's test, then the rest. Assumes nothing.
use mathlib.Core.Path.{refl, sym, ◌∙◌}
use Prim.Native.Nat.{◌+◌}
use native.Mathlib.Omega.{arith}
use Rattle.layout.proofs.laws.Reading.{follow, span_within, field_got, two_there}
use Rattle.wire.specs.Container.{header_at}
use Rattle.wire.proofs.container.read_header.Goals as goal

pub overflow_add-at : goal.overflow_add-at
overflow_add-at c =
    let t = two_there 4 2 _ _ _ c.in_ok-rest.ensures in
    let h = span_within _ _ _ _ _ t.0 in
    omega (arith, h)

pub word-kind-requires : goal.word-kind-requires
word-kind-requires c =
    let t = two_there 4 2 _ _ _ c.in_ok-rest.ensures in
    let h = span_within _ _ _ _ _ t.1 in
    omega (arith, h)

pub returns-then-not-is_kind : goal.returns-then-not-is_kind
unfolding header_at
returns-then-not-is_kind c =
    let a = c.args in
    let t = two_there 4 2 a.s.now a.c.at _ c.in_ok-rest.ensures in
    let none = sym c.is_kind.ensures ∙ c.if-not-is_kind.true in
    follow _ (field_got 4 _ a.s.now a.c.at _ _ refl t.0)
    (follow _ (field_got 2 _ a.s.now (a.c.at + 4) _ _ c.word-kind.ensures.0 t.1) (rw (none, c.plain.ensures)))

pub word-requires : goal.word-requires
word-requires c =
    let t = two_there 4 2 _ _ _ c.in_ok-rest.ensures in
    let h = span_within _ _ _ _ _ t.0 in
    omega (arith, h)

pub returns : goal.returns
unfolding header_at
returns c =
    let a = c.args in
    let t = two_there 4 2 a.s.now a.c.at _ c.in_ok-rest.ensures in
    let one = sym c.is_kind.ensures ∙ c.if-not-is_kind.false in
    follow _ (field_got 4 _ a.s.now a.c.at _ _ c.word.ensures.0 t.0)
    (follow _ (field_got 2 _ a.s.now (a.c.at + 4) _ _ c.word-kind.ensures.0 t.1) (rw one c.header_rest.ensures))
