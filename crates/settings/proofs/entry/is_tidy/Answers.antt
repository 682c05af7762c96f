-- `settings::entry::is_tidy`: the serial, then the value. Assumes nothing.
use mathlib.Core.Path.{sym, ◌∙◌}
use Rattle.settings.specs.Entry.{is_tidy}
use Rattle.settings.proofs.entry.is_tidy.Goals as goal

pub returns-then-not-serial_tidy : goal.returns-then-not-serial_tidy
unfolding is_tidy
returns-then-not-serial_tidy c = rw (sym c.serial_tidy.ensures ∙ c.if-not-serial_tidy.true)

pub returns : goal.returns
unfolding is_tidy
returns c = rw (sym c.serial_tidy.ensures ∙ c.if-not-serial_tidy.false) c.value_tidy.ensures
