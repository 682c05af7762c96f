-- `panel::range::at_step`: no step leaves the ends; else the span is tested. Assumes nothing.
use Rattle.std.proofs.Common.{rules, eq-eqb, ne_eqb}
use Rattle.panel.specs.Words.{span, at_step}
use Rattle.panel.proofs.range.at_step.Goals as goal

pub returns-then-step : goal.returns-then-step
unfolding at_step
returns-then-step c = rw c.if-step.true c.at_end.ensures

pub returns-then-step-eq0 : goal.returns-then-step-eq0
unfolding at_step
returns-then-step-eq0 c = rw (c.if-step.false, eq-eqb _ _ c.if-step-eq0.true) c.at_end-then-step-eq0.ensures

pub returns : goal.returns
unfolding at_step span
returns c =
    rw (c.if-step.false, ne_eqb _ _ c.if-step-eq0.false, ← c.span.ensures)
