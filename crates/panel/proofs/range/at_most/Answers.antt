-- `panel::range::at_most`: the signs, then the words. Assumes nothing.
use Rattle.panel.specs.Words.{at_most}
use Rattle.panel.proofs.range.at_most.Goals as goal

pub returns-then-b : goal.returns-then-b
unfolding at_most
returns-then-b c = rw (c.if-a.true, c.if-b.true)

pub returns-else-b : goal.returns-else-b
unfolding at_most
returns-else-b c = rw (c.if-a.true, c.if-b.false)

pub returns-then-b-2 : goal.returns-then-b-2
unfolding at_most
returns-then-b-2 c = rw (c.if-a.false, c.if-b-2.true)

pub returns-else-b-2 : goal.returns-else-b-2
unfolding at_most
returns-else-b-2 c = rw (c.if-a.false, c.if-b-2.false)
