-- `mending::stretches_in`: some bytes, or none. Assumes nothing.
use Rattle.std.proofs.Common.{◌≡◌, ◌-◌, sym, arith}
use Rattle.mending.proofs.Stretched.{stretch_none, one_slot}
use Rattle.mending.proofs.stretches_in.Goals as goal

pub returns-then-from-to : goal.returns-then-from-to
returns-then-from-to c = let a = c.args in sym (one_slot a.to (a.to - a.from) (omega (arith, c.if-from-to.true)))

pub returns-else-from-to : goal.returns-else-from-to
returns-else-from-to c =
    let a = c.args in
    let none : a.to - a.from ≡ 0 = omega (arith, c.if-from-to.false) in
    rw (stretch_none a.to none)
