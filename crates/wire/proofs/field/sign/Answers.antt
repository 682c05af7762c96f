-- `wire::field::sign`: below the half as it is, else less the whole. Assumes nothing.
use mathlib.Core.Path.{◌≡◌, sym, ◌∙◌}
use Prim.Native.Nat.{suc, ◌+◌, ◌-◌}
use native.Mathlib.Omega.{arith}
use lib.IntN.{negsuc}
use mir.Syntax.{w64}
use mir.Val.{SFits}
use mir.ValLaws.{to_z_pos, to_z-of_z}
use Rattle.wire.proofs.Twos.{signed_low, signed_high, minus}
use Rattle.wire.proofs.field.sign.Goals as goal

pub returns-then-v-half : goal.returns-then-v-half
returns-then-v-half c =
    let a = c.args in
    to_z_pos w64 a.v (omega arith) ∙ sym (signed_low a.half a.v (omega arith))

pub overflow_sub-result-4 : goal.overflow_sub-result-4
overflow_sub-result-4 c =
    let a = c.args in
    let m = a.half - 1 - (a.v - a.half) in
    rw (to_z_pos w64 m (omega arith), minus m) (record { sfits = omega arith })

pub returns : goal.returns
returns c =
    let a = c.args in
    let m = a.half - 1 - (a.v - a.half) in
    let same : a.half + a.half - suc a.v ≡ m = omega arith in
    let fits : SFits w64 (negsuc m) = record { sfits = omega arith } in
    rw (signed_high a.half a.v (omega arith), to_z_pos w64 m (omega arith), minus m, same) (to_z-of_z w64 (negsuc m) fits)
