-- A unit of the string lies within. Assumes nothing.
use native.Mathlib.Omega.{arith}
use Rattle.wire.proofs.Spelled.{text_stood}
use Rattle.wire.proofs.Cursor.unit.Goals as goal

pub overflow_mul-n : goal.overflow_mul-n
overflow_mul-n c = let st = text_stood _ _ c.in_ok-units.units _ c.in_ok-units.ensures in omega (arith, st.fits, c.if-units-n.false)

pub overflow_add-units : goal.overflow_add-units
overflow_add-units c = let st = text_stood _ _ c.in_ok-units.units _ c.in_ok-units.ensures in omega (arith, st.fits, c.if-units-n.false)
