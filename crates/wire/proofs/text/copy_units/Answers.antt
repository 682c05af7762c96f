-- `wire::text::copy_units`: one unit more. Assumes nothing.
use mathlib.Core.Path.{◌≡◌}
use native.Mathlib.Omega.{arith}
use Rattle.layout.proofs.laws.Writing.{byte, end}
use Rattle.wire.proofs.Turns.{one_more, none_more}
use Rattle.wire.proofs.text.copy_units.Goals as goal

pub loop-i-preserved : goal.loop-i-preserved
loop-i-preserved c =
    let a = c.args in
    let l = c.loop-i in
    byte (rw (← c.unit_at.ensures) at (one_more 2 a.count a.s.now a.start l.i (omega arith))) l.invariant

pub returns : goal.returns
returns c =
    let a = c.args in
    let l = c.loop-i in
    let last : l.i ≡ a.count = omega arith in
    rw last at (end (none_more 2 a.count a.s.now a.start l.i (omega arith)) l.invariant)
