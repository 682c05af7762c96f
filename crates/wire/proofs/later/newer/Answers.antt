-- `wire::later::newer`: the part that `newer_place` names lies within its bytes. Assumes nothing.
use mathlib.Core.Path.{◌≡◌}
use Prim.Native.Nat.{◌+◌, ◌-◌}
use native.Mathlib.Omega.{arith}
use Rattle.layout.proofs.laws.Numbers.{bytes_of}
use Rattle.wire.specs.Property.{has_enable}
use Rattle.wire.proofs.Newest.{chosen_within}
use Rattle.wire.proofs.later.newer.Goals as goal

pub overflow_add-end : goal.overflow_add-end
overflow_add-end c =
    let w = chosen_within (has_enable c.args.l) c.args.description.now c.args.payload.now (bytes_of _ (λ i. (c.type_inv.description i).fits)) _ c.newer_place-n.ensures in
    omega (arith, w.0)

pub slice_bounds-result-end : goal.slice_bounds-result-end
slice_bounds-result-end c =
    let w = chosen_within (has_enable c.args.l) c.args.description.now c.args.payload.now (bytes_of _ (λ i. (c.type_inv.description i).fits)) _ c.newer_place-n.ensures in
    omega (arith, w.1 c.if-n.true)

pub returns-then-n : goal.returns-then-n
returns-then-n c =
    let n = c.newer_place-n.result in
    let len : n.start + n.len - n.start ≡ n.len = omega arith in
    rw (← c.newer_place-n.ensures, len, c.if-n.true)

pub slice_bounds-result-end-2 : goal.slice_bounds-result-end-2
slice_bounds-result-end-2 c =
    let w = chosen_within (has_enable c.args.l) c.args.description.now c.args.payload.now (bytes_of _ (λ i. (c.type_inv.description i).fits)) _ c.newer_place-n.ensures in
    omega (arith, w.2 c.if-n.false)

pub returns : goal.returns
returns c =
    let n = c.newer_place-n.result in
    let len : n.start + n.len - n.start ≡ n.len = omega arith in
    rw (← c.newer_place-n.ensures, len, c.if-n.false)
