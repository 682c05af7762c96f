-- `tree::climb::slash`: nothing, or one byte. Assumes nothing.
use mathlib.Core.List.{[]}
use native.Mathlib.Omega.{arith}
use borrow.Author.Tests.{eq-eqb, ne_eqb}
use Rattle.layout.specs.Bytes.{bytes}
use Rattle.layout.proofs.laws.Writing.{in_room, nothing}
use Rattle.tree.proofs.climb.slash.Goals as goal

pub returns-then-o-from : goal.returns-then-o-from
returns-then-o-from c =
    let a = c.args in
    rw (eq-eqb a.o a.from c.if-o-from.true, in_room a.out.now a.o [] (omega arith)) nothing

pub returns : goal.returns
unfolding bytes
returns c =
    let a = c.args in
    rw (ne_eqb a.o a.from c.if-o-from.false) c.store.ensures
