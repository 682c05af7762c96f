-- The width of the kind that the code has. Assumes nothing.
use mathlib.Core.Path.{◌∙◌, ap}
use Rattle.wire.specs.Layout.{width_or, integer_width}
use Rattle.wire.proofs.kind.integer_width.Goals as goal

pub returns-in-Some : goal.returns-in-Some
unfolding integer_width
returns-in-Some c = c.width_of.ensures.0 ∙ ap width_or c.in-Some.ensures

pub returns-in-None : goal.returns-in-None
unfolding integer_width
returns-in-None c = ap width_or c.in-None.ensures
