-- `settings::spell::put_fields`: five writes, one after the other. Assumes nothing.
use native.Mathlib.Omega.{arith}
use Rattle.settings.proofs.SpellLaws.{front_room, fields_put}
use Rattle.settings.proofs.spell.put_fields.Goals as goal

pub put_front_at-b-requires : goal.put_front_at-b-requires
put_front_at-b-requires c = let k = c in front_room _ (omega (arith, k.requires.0)) c.store-a.ensures

pub returns : goal.returns
returns c =
    let k = c in
    let a = k.args in
    fields_put a.kind a.vendor a.property a.code a.serial.now a.value.now k.requires.0 c.store-a.ensures c.put_front_at-b.ensures c.copy-c.ensures c.store-d.ensures c.copy.ensures
