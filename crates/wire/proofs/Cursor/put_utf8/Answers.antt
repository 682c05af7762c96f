-- `wire::Cursor::put_utf8`: the string is read, then put where it has room. Assumes nothing.
use mathlib.Core.Path.{◌∙◌, sym}
use mathlib.Core.List.{[]}
use borrow.Author.Tests.{leb-true, leb-false}
use native.Mathlib.Omega.{arith}
use Rattle.layout.proofs.laws.Numbers.{bytes_of}
use Rattle.layout.proofs.laws.Writing.{in_room, out_of_room, nothing}
use Rattle.wire.specs.Places.{items_in}
use Rattle.wire.specs.Utf8.{utf8}
use Rattle.wire.proofs.Lengths.{text_units}
use Rattle.wire.proofs.Spelled.{text_stood}
use Rattle.wire.proofs.laws.Points.{utf8_got, utf8_refused}
use Rattle.wire.proofs.Cursor.put_utf8.Goals as goal

pub has_room-requires : goal.has_room-requires
has_room-requires c = let a = c.args in text_units a.s.now (bytes_of _ (λ i. (c.type_inv.s i).fits)) a.self.at _ _ c.in-Ok.ensures

pub put_units-requires-clause-count_in_bounds : goal.put_units-requires-clause-count_in_bounds
put_units-requires-clause-count_in_bounds c = (text_stood _ _ _ _ c.in-Ok.ensures).fits

pub returns-then-not-has_room : goal.returns-then-not-has_room
returns-then-not-has_room c =
    let a = c.args in
    rw (utf8_got a.s.now a.self.at _ _ c.in-Ok.ensures, out_of_room a.out.now a.o (utf8 (items_in 2 a.s.now c.in-Ok.units)) (leb-false _ _ (sym c.has_room.ensures ∙ c.if-not-has_room.true)))
    nothing

pub returns : goal.returns
returns c =
    let a = c.args in
    rw (utf8_got a.s.now a.self.at _ _ c.in-Ok.ensures, in_room a.out.now a.o (utf8 (items_in 2 a.s.now c.in-Ok.units)) (leb-true _ _ (sym c.has_room.ensures ∙ c.if-not-has_room.false)))
    c.put_units.ensures

pub returns-in_default : goal.returns-in_default
returns-in_default c =
    let a = c.args in
    rw (utf8_refused a.s.now a.self.at _ c.in_default.ensures, in_room a.out.now a.o [] (omega arith)) nothing
