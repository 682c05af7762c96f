-- `settings::row::any_place`: the key is written, and sought. Assumes nothing.
use native.Mathlib.Omega.{arith}
use mathlib.Core.Path.{refl}
use Rattle.settings.specs.Row.{any_key}
use Rattle.settings.proofs.Keys.{any_spells}
use Rattle.settings.proofs.row.any_place.Goals as goal

pub returns : goal.returns
returns c =
    let a = c.args in
    c.seek.ensures (any_key a.vendor a.property) (any_spells a.vendor a.property (omega arith) (omega arith) refl c.put_front.ensures)
