-- `recording::copy::count`: the kind's test. Assumes nothing.
use mathlib.Core.Path.{sym, ◌∙◌}
use Rattle.recording.specs.Copied.{counted}
use Rattle.recording.proofs.copy.count.Goals as goal

pub returns-then-is_written : goal.returns-then-is_written
unfolding counted
returns-then-is_written c = rw (sym c.is_written.ensures ∙ c.if-is_written.true)

pub returns : goal.returns
unfolding counted
returns c = rw (sym c.is_written.ensures ∙ c.if-is_written.false)
