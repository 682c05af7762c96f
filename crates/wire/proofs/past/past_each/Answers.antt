-- The values that are left, from the place reached. Assumes nothing.
use mathlib.Core.Path.{◌≡◌, sym, ◌∙◌, ap}
use Prim.Native.Nat.{suc, ◌-◌, ◌+◌}
use native.Mathlib.Omega.{arith}
use Rattle.std.proofs.lemmas.Result.{err_from_is_err_and}
use Rattle.wire.specs.Places.{shape_at}
use Rattle.wire.specs.Property.{passed_at}
use Rattle.wire.proofs.Passed.{passed_none, passed_more, passed_bad}
use Rattle.wire.proofs.past.past_each.Goals as goal

pub returns-in_err-next : goal.returns-in_err-next
returns-in_err-next c =
    let a = c.args in
    let l = c.loop in
    let less : a.n - l.counter ≡ suc (a.n - (l.counter + 1)) = omega (arith, c.loop-test.true) in
    let e = c.in_err-next.ensures ∙ ap (λ x. shape_at x a.src.now l.at) c.shape_of.ensures in
    let p = err_from_is_err_and c.from_residual.result c.from_residual.ensures.1 in
    rw (p.1, p.2) (sym (passed_bad a.code a.src.now (a.n - (l.counter + 1)) l.at _ e) ∙ ap (λ k. passed_at a.code k a.src.now l.at) (sym less) ∙ l.invariant)

pub loop-preserved : goal.loop-preserved
loop-preserved c =
    let a = c.args in
    let l = c.loop in
    let less : a.n - l.counter ≡ suc (a.n - (l.counter + 1)) = omega (arith, c.loop-test.true) in
    let e = c.in_ok-next.ensures ∙ ap (λ x. shape_at x a.src.now l.at) c.shape_of.ensures in
    sym (passed_more a.code a.src.now (a.n - (l.counter + 1)) l.at _ _ e) ∙ ap (λ k. passed_at a.code k a.src.now l.at) (sym less) ∙ l.invariant

pub returns : goal.returns
returns c =
    let a = c.args in
    let l = c.loop in
    let none : a.n - l.counter ≡ 0 = omega (arith, c.loop-test.false) in
    sym (passed_none a.code a.src.now l.at) ∙ ap (λ k. passed_at a.code k a.src.now l.at) (sym none) ∙ l.invariant
