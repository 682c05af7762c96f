-- `settings::entry::serial_tidy`: by the kind, then the bytes of the serial. Assumes nothing.
use borrow.Author.Tests.{eq-eqb, ne_eqb}
use Rattle.settings.specs.Entry.{serial_tidy}
use Rattle.settings.proofs.entry.serial_tidy.Goals as goal

pub returns-then-x-ne-OWN : goal.returns-then-x-ne-OWN
unfolding serial_tidy
returns-then-x-ne-OWN c = rw (ne_eqb c.args.x.kind 17 c.if-x-ne-OWN.true)

pub returns : goal.returns
unfolding serial_tidy
returns c = rw (eq-eqb c.args.x.kind 17 c.if-x-ne-OWN.false) c.tidy_text.ensures
