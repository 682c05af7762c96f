-- `abi::write::integer_width`: one test after the other. Assumes nothing.
use Rattle.std.proofs.Common.{eq-eqb, ne_eqb, le-leb}
use borrow.Author.Tests.{lt-leb}
use Rattle.abi.specs.Integers.{integer_width}
use Rattle.abi.proofs.write.integer_width.Statement.{statement}
use Rattle.abi.proofs.write.integer_width.Tie as tie

returns : tie.Need-returns-then-code-eq0
unfolding integer_width
returns c = rw (eq-eqb _ _ c.if-code-eq0.true)

returns-2 : tie.Need-returns-then-code-le2
unfolding integer_width
returns-2 c = rw (ne_eqb _ _ c.if-code-eq0.false, le-leb _ _ c.if-code-le2.true)

returns-3 : tie.Need-returns-then-code-le4
unfolding integer_width
returns-3 c = rw (ne_eqb _ _ c.if-code-eq0.false, lt-leb _ _ c.if-code-le2.false, le-leb _ _ c.if-code-le4.true)

returns-4 : tie.Need-returns-then-code-le6
unfolding integer_width
returns-4 c = rw (ne_eqb _ _ c.if-code-eq0.false, lt-leb _ _ c.if-code-le2.false, lt-leb _ _ c.if-code-le4.false, le-leb _ _ c.if-code-le6.true)

returns-5 : tie.Need-returns-then-code-le8
unfolding integer_width
returns-5 c = rw (ne_eqb _ _ c.if-code-eq0.false, lt-leb _ _ c.if-code-le2.false, lt-leb _ _ c.if-code-le4.false, lt-leb _ _ c.if-code-le6.false, le-leb _ _ c.if-code-le8.true)

returns-6 : tie.Need-returns-then-code-le10
unfolding integer_width
returns-6 c = rw (ne_eqb _ _ c.if-code-eq0.false, lt-leb _ _ c.if-code-le2.false, lt-leb _ _ c.if-code-le4.false, lt-leb _ _ c.if-code-le6.false, lt-leb _ _ c.if-code-le8.false, le-leb _ _ c.if-code-le10.true)

returns-7 : tie.Need-returns-else-code-le10
unfolding integer_width
returns-7 c = rw (ne_eqb _ _ c.if-code-eq0.false, lt-leb _ _ c.if-code-le2.false, lt-leb _ _ c.if-code-le4.false, lt-leb _ _ c.if-code-le6.false, lt-leb _ _ c.if-code-le8.false, lt-leb _ _ c.if-code-le10.false)

pub integer_width_spec : {M : Type 1} → statement M
integer_width_spec = tie.close (tie.spec returns returns-2 returns-3 returns-4 returns-5 returns-6 returns-7)
