-- `wire::Cursor::utf8_len`: the units of the string that is read. Assumes nothing.
use mathlib.Core.Path.{ap}
use Rattle.std.proofs.lemmas.Result.{err_from_is_err_and}
use Prim.Native.Nat.{ℕ}
use Rattle.layout.specs.Answer.{got, means}
use Rattle.layout.proofs.laws.Numbers.{bytes_of}
use Rattle.wire.proofs.Lengths.{text_units}
use Rattle.wire.proofs.laws.Points.{utf8_got, utf8_refused}
use Rattle.wire.proofs.Cursor.utf8_len.Goals as goal

pub returns-in_err-units : goal.returns-in_err-units
unfolding means
returns-in_err-units c =
    let a = c.args in
    let p = err_from_is_err_and c.from_residual.result c.from_residual.ensures.1 in
    rw (p.1, p.2, utf8_refused a.s.now a.self.at _ c.in_err-units.ensures)

pub units_len-requires : goal.units_len-requires
units_len-requires c = let a = c.args in text_units a.s.now (bytes_of _ (λ i. (c.type_inv.s i).fits)) a.self.at _ _ c.in_ok-units.ensures

pub returns : goal.returns
unfolding means
returns c =
    let a = c.args in
    rw (utf8_got a.s.now a.self.at _ _ c.in_ok-units.ensures) (ap (λ (k : ℕ). got k c.in_ok-units.next.at) c.units_len.ensures)
