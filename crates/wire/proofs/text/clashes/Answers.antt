-- `wire::text::clashes`: one unit more, that follows the one before it or does not. Assumes nothing.
use mathlib.Core.Path.{◌≡◌, refl, ap, ◌∙◌}
use mathlib.Core.Bool.{false}
use Prim.Native.Nat.{◌+◌, ◌-◌, ◌*◌}
use native.Mathlib.Omega.{arith}
use lib.Dec.{eqb}
use lib.ListN.{take, drop}
use Rattle.layout.specs.Answer.{pick}
use Rattle.layout.specs.Bytes.{number}
use Rattle.wire.specs.Layout.{follows}
use Rattle.wire.proofs.Texts.{clash_on, pairs_end}
use Rattle.wire.proofs.text.clashes.Goals as goal

pub loop-i-preserved : goal.loop-i-preserved
loop-i-preserved c =
    let a = c.args in
    let l = c.loop-i in
    let s = a.s.now in
    let o = a.at + l.i * 2 in
    let u = number (take 2 (drop o s)) in
    let v = number (take 2 (drop (o + 2) s)) in
    let k : c.clash-found.result ≡ pick (follows u v) 0 1 = rw (← c.unit_at.ensures, ← c.unit_at-in-loop-i.ensures) c.clash-found.ensures.0 in
    let there : o + 2 ≡ a.at + (l.i + 1) * 2 = omega arith in
    let less : a.n - l.i - 1 ≡ a.n - (l.i + 1) = omega arith in
    (rw (← there, ← less) (λ us. clash_on u v (a.n - l.i) s (o + 2) us (omega arith) refl l.found c.clash-found.result k ∙ l.invariant.0 us), omega (arith, c.clash-found.ensures.1))

pub returns : goal.returns
returns c us =
    let a = c.args in
    let l = c.loop-i in
    let s = a.s.now in
    let last : l.i ≡ a.n = omega arith in
    rw last at (ap (λ b. pick (eqb l.found 0) b false) (pairs_end (number (take 2 (drop (a.at + l.i * 2) s))) (a.n - l.i) s (a.at + l.i * 2 + 2) us (omega arith)) ∙ l.invariant.0 us)
