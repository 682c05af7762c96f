-- `layout::write::copy_all`: a byte of what is left is copied, until none is. Assumes nothing.
use mathlib.Core.Path.{◌≡◌}
use Prim.Native.Nat.{◌+◌, ◌-◌}
use native.Mathlib.Omega.{arith}
use lib.ListN.{drop}
use Rattle.layout.proofs.laws.Writing.{byte, end, take_step, take_none}
use Rattle.layout.proofs.write.copy_all.Goals as goal

pub loop-i-preserved : goal.loop-i-preserved
loop-i-preserved c =
    let a = c.args in
    let l = c.loop-i in
    let less : a.n - l.i - 1 ≡ a.n - (l.i + 1) = omega arith in
    let from : a.a + l.i + 1 ≡ a.a + (l.i + 1) = omega arith in
    let next : a.at + l.i + 1 ≡ a.at + (l.i + 1) = omega arith in
    rw (← less, ← from, ← next) (byte (take_step a.src.now (a.a + l.i) (a.n - l.i) (omega arith) (omega arith)) l.invariant)

pub returns : goal.returns
returns c =
    let a = c.args in
    let l = c.loop-i in
    let last : l.i ≡ a.n = omega arith in
    rw last at (end (take_none (drop (a.a + l.i) a.src.now) (a.n - l.i) (omega arith)) l.invariant)
