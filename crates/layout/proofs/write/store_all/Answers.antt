-- `layout::write::store_all`: a byte of what is left is stored, until none is. Assumes nothing.
use mathlib.Core.Path.{◌≡◌}
use Prim.Native.Nat.{◌+◌, ◌-◌}
use native.Mathlib.Omega.{arith}
use Rattle.layout.proofs.laws.Writing.{byte, end, bytes_step, bytes_none}
use Rattle.layout.proofs.write.store_all.Goals as goal

pub loop-i-preserved : goal.loop-i-preserved
loop-i-preserved c =
    let a = c.args in
    let l = c.loop-i in
    let less : a.n - l.i - 1 ≡ a.n - (l.i + 1) = omega arith in
    let next : a.at + l.i + 1 ≡ a.at + (l.i + 1) = omega arith in
    rw (← less, ← next) (byte (bytes_step (a.n - l.i) l.rest (omega arith)) l.invariant)

pub returns : goal.returns
returns c =
    let a = c.args in
    let l = c.loop-i in
    let last : l.i ≡ a.n = omega arith in
    rw last at (end (bytes_none (a.n - l.i) l.rest (omega arith)) l.invariant)
