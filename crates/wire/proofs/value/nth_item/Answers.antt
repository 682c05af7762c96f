-- An item of the array lies within. Assumes nothing.
use native.Mathlib.Nat.{mul-le-mul_right, le_of_lt}
use Prim.Native.Nat.{◌*◌, ◌≤◌}
use native.Mathlib.Omega.{arith}
use Rattle.wire.proofs.Agrees.{array_ranged}
use Rattle.wire.proofs.value.nth_item.Goals as goal

pub overflow_mul-n : goal.overflow_mul-n
overflow_mul-n c =
    let w = c.width_of-w.result in
    let h = array_ranged w c.args.s.now c.args.at c.in_ok-items.items _ c.in_ok-items.ensures in
    let k : c.args.n * w ≤ c.in_ok-items.items.count * w = mul-le-mul_right w (le_of_lt c.if-items-n.false) in
    omega arith

pub overflow_add-items : goal.overflow_add-items
overflow_add-items c =
    let w = c.width_of-w.result in
    let h = array_ranged w c.args.s.now c.args.at c.in_ok-items.items _ c.in_ok-items.ensures in
    let k : c.args.n * w ≤ c.in_ok-items.items.count * w = mul-le-mul_right w (le_of_lt c.if-items-n.false) in
    omega arith
