-- `settings::row::own_place`: the key is written, and sought where there is one. Assumes nothing.
use mathlib.Core.Path.{refl, sym}
use lib.Seq.{length-take-le}
use Rattle.layout.proofs.laws.Numbers.{bytes_of}
use Rattle.settings.specs.Row.{own_key}
use Rattle.settings.proofs.Keys.{none_places, spells_done, spells_none}
use Rattle.settings.proofs.row.own_place.Goals as goal

pub slice_bounds-key-end : goal.slice_bounds-key-end
slice_bounds-key-end c = (spells_done refl c.in-Ok.ensures).0

pub slice_bounds-seek-end : goal.slice_bounds-seek-end
slice_bounds-seek-end c = sym (length-take-le _ _ (spells_done refl c.in-Ok.ensures).0)

pub returns-in-Ok : goal.returns-in-Ok
returns-in-Ok c = c.seek.ensures (own_key c.args.vendor c.args.property c.args.serial.now) (spells_done refl c.in-Ok.ensures).1

pub returns-in-Err : goal.returns-in-Err
returns-in-Err c =
    none_places c.args.row.now (bytes_of _ (λ i. (c.type_inv.row i).fits)) (own_key c.args.vendor c.args.property c.args.serial.now) (spells_none refl c.in-Err.ensures)
