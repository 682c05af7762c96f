-- `tree::table::lists_ok`: each answer by the tests that led there. Assumes nothing.
use borrow.Author.Tests.{eq-eqb, ne_eqb}
use Rattle.tree.proofs.table.lists_ok.Goals as goal

pub returns-then-handles-ne1024 : goal.returns-then-handles-ne1024
returns-then-handles-ne1024 c = rw (ne_eqb _ _ c.if-handles-ne1024.true)

pub returns-then-parents-ne1024 : goal.returns-then-parents-ne1024
returns-then-parents-ne1024 c = rw (eq-eqb _ _ c.if-handles-ne1024.false, ne_eqb _ _ c.if-parents-ne1024.true)

pub returns-then-ends-ne1024 : goal.returns-then-ends-ne1024
returns-then-ends-ne1024 c = rw (eq-eqb _ _ c.if-handles-ne1024.false, eq-eqb _ _ c.if-parents-ne1024.false, ne_eqb _ _ c.if-ends-ne1024.true)

pub returns : goal.returns
returns c = rw (eq-eqb _ _ c.if-handles-ne1024.false, eq-eqb _ _ c.if-parents-ne1024.false, eq-eqb _ _ c.if-ends-ne1024.false)
