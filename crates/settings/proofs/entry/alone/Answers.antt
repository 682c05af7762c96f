-- `settings::entry::alone`: what was read lies within the bytes. Assumes nothing.
use mathlib.Core.Path.{sym}
use Rattle.layout.proofs.laws.Numbers.{bytes_of}
use Rattle.settings.proofs.Entries.{whole_read, read_within}
use Rattle.settings.proofs.entry.alone.Goals as goal

pub tidy_at-requires : goal.tidy_at-requires
tidy_at-requires c = read_within (whole_read c.args.edition c.args.s.now 0 (bytes_of _ (λ i. (c.type_inv.s i).fits)) _ _ (sym c.in_ok-x.ensures))
