-- `wire::text::unit_at`: a unit is its low byte and 256 times its high one. Assumes nothing.
use mathlib.Core.Path.{sym, ◌∙◌}
use native.Mathlib.Omega.{arith}
use Rattle.wire.proofs.Small.{unit_is}
use Rattle.wire.proofs.text.unit_at.Goals as goal

pub returns : goal.returns
returns c =
    let k = c in
    c.unit_of.ensures ∙ sym (unit_is k.args.s.now k.args.at (omega (arith, k.requires)))
