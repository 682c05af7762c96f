-- `network::translate::phase_of`: by the direction, where there are data. Assumes nothing.
use mathlib.Core.Path.{◌≡◌}
use Rattle.network.specs.declared.translate.Direction.TheVariants as direction
use Rattle.network.proofs.translate.phase_of.Goals as goal

pub returns-then-not-has : goal.returns-then-not-has
returns-then-not-has c = rw (c.if-not-has.true)

pub returns-in-In : goal.returns-in-In
returns-in-In c =
    let e : c.args.d ≡ direction.In = cc in rw (e, c.if-not-has.false)

pub returns-in-Out : goal.returns-in-Out
returns-in-Out c =
    let e : c.args.d ≡ direction.Out = cc in rw (e, c.if-not-has.false)
