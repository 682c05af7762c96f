-- `settings::entry::rest_at`: the entry's bytes are there. Assumes nothing.
use mathlib.Core.Path.{sym}
use native.Mathlib.Omega.{arith}
use lib.Seq.{length-take-le}
use Rattle.settings.proofs.entry.rest_at.Goals as goal

pub slice_bounds-fields_at-end : goal.slice_bounds-fields_at-end
slice_bounds-fields_at-end c = sym (length-take-le _ _ (omega (arith, c.if-s-at.false, c.requires)))
