-- `settings::spell::put_entry`: the fields are the entry's bytes. Assumes nothing.
use mathlib.Core.Path.{◌∙◌, sym}
use native.Mathlib.Omega.{arith}
use Rattle.settings.specs.Spell.{kind_of}
use Rattle.layout.proofs.laws.Writing.{no_room, done}
use Rattle.settings.proofs.SpellLaws.{all_due, entry_size}
use Rattle.settings.proofs.spell.put_entry.Goals as goal

pub returns-then-out-serial : goal.returns-then-out-serial
returns-then-out-serial c =
    let a = c.args in
    no_room (all_due a.own a.vendor a.property a.code a.serial.now a.value.now (sym c.is_value.ensures ∙ c.if-not-is_value.false) (omega (arith, c.if-serial-value.false, c.requires)))
    (omega (arith, entry_size (kind_of a.own) a.vendor a.property a.code a.serial.now a.value.now, c.if-out-serial.true)) c.plain-then-out-serial.ensures

pub returns : goal.returns
returns c =
    let a = c.args in
    done (all_due a.own a.vendor a.property a.code a.serial.now a.value.now (sym c.is_value.ensures ∙ c.if-not-is_value.false) (omega (arith, c.if-serial-value.false, c.requires)))
    (omega (arith, entry_size (kind_of a.own) a.vendor a.property a.code a.serial.now a.value.now, c.if-out-serial.false)) (rw c.kind_of.ensures at c.put_fields.ensures)
