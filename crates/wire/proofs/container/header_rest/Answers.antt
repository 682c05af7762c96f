-- Code and number in one span, then the length's test. Assumes nothing.
use Prim.Native.Nat.{◌+◌}
use native.Mathlib.Omega.{arith}
use Rattle.layout.proofs.laws.Reading.{follow, span_within, field_got, two_there}
use borrow.Author.Tests.{le-leb}
use Rattle.wire.specs.Container.{header_rest}
use Rattle.wire.proofs.container.header_rest.Goals as goal

pub word-code-requires : goal.word-code-requires
word-code-requires c =
    let t = two_there 2 4 _ _ _ c.in_ok-next.ensures in
    let h = span_within _ _ _ _ _ t.0 in
    omega (arith, h)

pub overflow_add-at : goal.overflow_add-at
overflow_add-at c =
    let t = two_there 2 4 _ _ _ c.in_ok-next.ensures in
    let h = span_within _ _ _ _ _ t.0 in
    omega (arith, h)

pub word-number-requires : goal.word-number-requires
word-number-requires c =
    let t = two_there 2 4 _ _ _ c.in_ok-next.ensures in
    let h = span_within _ _ _ _ _ t.1 in
    omega (arith, h)

pub returns : goal.returns
unfolding header_rest
returns c =
    let a = c.args in
    let t = two_there 2 4 a.s.now a.c.at _ c.in_ok-next.ensures in
    follow _ (field_got 2 _ a.s.now a.c.at _ _ c.word-code.ensures.0 t.0)
    (follow _ (field_got 4 _ a.s.now (a.c.at + 2) _ _ c.word-number.ensures.0 t.1) (rw (le-leb 12 a.len c.if-len-lt12.false)))
