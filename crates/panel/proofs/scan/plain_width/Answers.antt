-- `panel::scan::plain_width`: one test after the other. Assumes nothing.
use Rattle.std.proofs.Common.{eq-eqb, ne_eqb, le-leb}
use borrow.Author.Tests.{lt-leb}
use Rattle.panel.specs.Words.{plain_width}
use Rattle.panel.proofs.scan.plain_width.Goals as goal

pub returns-then-code-eq0 : goal.returns-then-code-eq0
unfolding plain_width
returns-then-code-eq0 c = rw (eq-eqb _ _ c.if-code-eq0.true)

pub returns-then-code-le2 : goal.returns-then-code-le2
unfolding plain_width
returns-then-code-le2 c = rw (ne_eqb _ _ c.if-code-eq0.false, le-leb _ _ c.if-code-le2.true)

pub returns-then-code-le4 : goal.returns-then-code-le4
unfolding plain_width
returns-then-code-le4 c = rw (ne_eqb _ _ c.if-code-eq0.false, lt-leb _ _ c.if-code-le2.false, le-leb _ _ c.if-code-le4.true)

pub returns-then-code-le6 : goal.returns-then-code-le6
unfolding plain_width
returns-then-code-le6 c = rw (ne_eqb _ _ c.if-code-eq0.false, lt-leb _ _ c.if-code-le2.false, lt-leb _ _ c.if-code-le4.false, le-leb _ _ c.if-code-le6.true)

pub returns-then-code-le8 : goal.returns-then-code-le8
unfolding plain_width
returns-then-code-le8 c = rw (ne_eqb _ _ c.if-code-eq0.false, lt-leb _ _ c.if-code-le2.false, lt-leb _ _ c.if-code-le4.false, lt-leb _ _ c.if-code-le6.false, le-leb _ _ c.if-code-le8.true)

pub returns-else-code-le8 : goal.returns-else-code-le8
unfolding plain_width
returns-else-code-le8 c = rw (ne_eqb _ _ c.if-code-eq0.false, lt-leb _ _ c.if-code-le2.false, lt-leb _ _ c.if-code-le4.false, lt-leb _ _ c.if-code-le6.false, lt-leb _ _ c.if-code-le8.false)
