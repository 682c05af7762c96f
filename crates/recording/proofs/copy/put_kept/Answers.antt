-- `recording::copy::put_kept`: nothing, or the record's bytes. Assumes nothing.
use mathlib.Core.Path.{sym, ◌∙◌}
use Rattle.recording.proofs.Placed.{nothing_put}
use Rattle.recording.proofs.copy.put_kept.Goals as goal

pub returns-then-not-is_written : goal.returns-then-not-is_written
returns-then-not-is_written c = rw (sym c.is_written.ensures ∙ c.if-not-is_written.true) nothing_put

pub returns : goal.returns
returns c = rw (sym c.is_written.ensures ∙ c.if-not-is_written.false) c.copy.ensures
