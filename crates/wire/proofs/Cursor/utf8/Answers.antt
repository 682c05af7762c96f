-- `wire::Cursor::utf8`: the string is read, then put where it has room. Assumes nothing.
use mathlib.Core.Path.{◌∙◌, ap, sym}
use Rattle.std.proofs.lemmas.Result.{err_from_is_err_and}
use lib.ListN.{length}
use borrow.Author.Tests.{leb-true, leb-false}
use native.Mathlib.Omega.{arith}
use Rattle.layout.specs.Written.{said_of}
use Rattle.layout.proofs.laws.Numbers.{bytes_of}
use Rattle.layout.proofs.laws.Writing.{refusal, no_room, done}
use Rattle.wire.specs.Places.{items_in}
use Rattle.wire.specs.Utf8.{utf8}
use Rattle.wire.proofs.Lengths.{text_units}
use Rattle.wire.proofs.Spelled.{text_stood}
use Rattle.wire.proofs.laws.Points.{utf8_got, utf8_refused}
use Rattle.wire.proofs.Cursor.utf8.Goals as goal

pub returns-in_err-units : goal.returns-in_err-units
unfolding said_of
returns-in_err-units c =
    let a = c.args in
    let p = err_from_is_err_and c.from_residual.result c.from_residual.ensures.1 in
    rw (p.1, p.2) (refusal (ap said_of (utf8_refused a.s.now a.self.at _ c.in_err-units.ensures)))

pub has_room-requires : goal.has_room-requires
has_room-requires c = let a = c.args in text_units a.s.now (bytes_of _ (λ i. (c.type_inv.s i).fits)) a.self.at _ _ c.in_ok-units.ensures

pub returns-then-not-has_room : goal.returns-then-not-has_room
unfolding said_of
returns-then-not-has_room c =
    let a = c.args in
    let long = leb-false (length (utf8 (items_in 2 a.s.now c.in_ok-units.units))) _ (sym c.has_room.ensures ∙ c.if-not-has_room.true) in
    no_room (ap said_of (utf8_got a.s.now a.self.at _ _ c.in_ok-units.ensures)) (omega arith) c.plain.ensures

pub put_units-requires-clause-count_in_bounds : goal.put_units-requires-clause-count_in_bounds
put_units-requires-clause-count_in_bounds c = let a = c.args in (text_stood a.s.now a.self.at _ _ c.in_ok-units.ensures).fits

pub returns : goal.returns
unfolding said_of
returns c =
    let a = c.args in
    let short = leb-true (length (utf8 (items_in 2 a.s.now c.in_ok-units.units))) _ (sym c.has_room.ensures ∙ c.if-not-has_room.false) in
    done (ap said_of (utf8_got a.s.now a.self.at _ _ c.in_ok-units.ensures)) (omega arith) c.put_units.ensures
