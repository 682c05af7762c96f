-- `panel::range::in_range`: three tests in a row. Assumes nothing.
use Rattle.std.proofs.Common.{sym, ◌∙◌, rules}
use Rattle.panel.specs.Words.{whole_range}
use Rattle.panel.proofs.range.in_range.Goals as goal

pub returns-then-not-at_most : goal.returns-then-not-at_most
unfolding whole_range
returns-then-not-at_most c = rw (sym c.at_most.ensures ∙ c.if-not-at_most.true)

pub returns-then-not-at_most-2 : goal.returns-then-not-at_most-2
unfolding whole_range
returns-then-not-at_most-2 c = rw (sym c.at_most.ensures ∙ c.if-not-at_most.false, sym c.at_most-2.ensures ∙ c.if-not-at_most-2.true)

pub returns : goal.returns
unfolding whole_range
returns c =
    rw (sym c.at_most.ensures ∙ c.if-not-at_most.false, sym c.at_most-2.ensures ∙ c.if-not-at_most-2.false) c.at_step.ensures
