-- `wire::text::each_follows`: the first unit follows none, each of the others the one before it, and the last is no high one. Assumes nothing.
use mathlib.Core.Path.{sym, ◌∙◌}
use native.Mathlib.Omega.{arith}
use borrow.Author.Tests.{eq-eqb, ne_eqb}
use lib.ListN.{drop}
use Rattle.wire.proofs.Texts.{first_no, others, none_pair}
use Rattle.wire.proofs.text.each_follows.Goals as goal

pub returns-then-n-eq0 : goal.returns-then-n-eq0
returns-then-n-eq0 c = let a = c.args in none_pair a.n (drop a.at a.s.now) (omega arith)

pub returns-then-not-follows : goal.returns-then-not-follows
returns-then-not-follows c =
    let a = c.args in
    first_no 0 c.unit_at.result a.n a.s.now a.at (omega arith) c.unit_at.ensures (sym c.follows.ensures ∙ c.if-not-follows.true)

pub returns-then-clashes-ne0 : goal.returns-then-clashes-ne0
returns-then-clashes-ne0 c =
    let f = c in
    let a = f.args in
    let first = f.unit_at in
    let goes = others 0 first.result a.n a.s.now a.at (omega arith) first.ensures _ c.clashes.result (sym f.follows.ensures ∙ f.if-not-follows.false) c.clashes.ensures in
    rw (ne_eqb _ 0 c.if-clashes-ne0.true) at goes

pub returns : goal.returns
returns c =
    let g = c in
    let f = g in
    let a = f.args in
    let first = f.unit_at in
    let goes = others 0 first.result a.n a.s.now a.at (omega arith) first.ensures _ g.clashes.result (sym f.follows.ensures ∙ f.if-not-follows.false) g.clashes.ensures in
    rw c.unit_at-2.ensures (rw (eq-eqb _ 0 g.if-clashes-ne0.false) at goes)
