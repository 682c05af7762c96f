-- `wire::field::signed_word`: below 0, all ones less what is left above -1; else the number itself. Assumes nothing.
use mathlib.Core.Path.{◌≡◌, sym, ◌∙◌, ap, subst}
use Prim.Native.Nat.{◌≤◌}
use native.Mathlib.Omega.{arith}
use lib.Dec.{T}
use lib.IntN.{ℤ, pos, negsuc, ◌-ℤ◌, nat_abs}
use lib.Signed.{non_neg}
use mir.Syntax.{w64}
use mir.Val.{Fits, SFits, to_z, of_z}
use mir.ValLaws.{to_z-of_z}
use Rattle.wire.specs.Codecs.{unsigned}
use Rattle.wire.proofs.laws.Numbered.{below, above}
use Rattle.wire.proofs.field.signed_word.Goals as goal

pub overflow_sub-result : goal.overflow_sub-result
overflow_sub-result c =
    let b = below c.args.z c.ranges.z c.if-z-lt0.true in
    subst (SFits w64) (sym b.2) (record { sfits = b.3 })

pub overflow_cast-result : goal.overflow_cast-result
overflow_cast-result c =
    let z = c.args.z in
    let b = below z c.ranges.z c.if-z-lt0.true in
    let is = ap (λ (y : ℤ). to_z w64 (of_z w64 y)) b.2 ∙ to_z-of_z w64 (pos b.0) (record { sfits = b.3 }) in
    subst (λ (y : ℤ). T (non_neg y) × Fits w64 (nat_abs y)) (sym is) (tt, record { fits = omega arith })

pub overflow_sub-result-then-z-lt0 : goal.overflow_sub-result-then-z-lt0
overflow_sub-result-then-z-lt0 c =
    let z = c.args.z in
    let b = below z c.ranges.z c.if-z-lt0.true in
    let is = ap (λ (y : ℤ). to_z w64 (of_z w64 y)) b.2 ∙ to_z-of_z w64 (pos b.0) (record { sfits = b.3 }) in
    subst (λ (y : ℤ). nat_abs y ≤ 18446744073709551615) (sym is) (omega arith)

pub returns-then-z-lt0 : goal.returns-then-z-lt0
returns-then-z-lt0 c =
    let z = c.args.z in
    let b = below z c.ranges.z c.if-z-lt0.true in
    let is = ap (λ (y : ℤ). to_z w64 (of_z w64 y)) b.2 ∙ to_z-of_z w64 (pos b.0) (record { sfits = b.3 }) in
    let abs : nat_abs (to_z w64 (of_z w64 (negsuc 0 -ℤ to_z w64 (of_z w64 z)))) ≡ b.0 = ap nat_abs is in
    omega arith ∙ ap (unsigned 18446744073709551616) (sym b.1)

pub overflow_cast-result-2 : goal.overflow_cast-result-2
overflow_cast-result-2 c =
    let z = c.args.z in
    let a = above z c.ranges.z c.if-z-lt0.false in
    let is = to_z-of_z w64 z c.ranges.z ∙ a.1 in
    subst (λ (y : ℤ). T (non_neg y) × Fits w64 (nat_abs y)) (sym is) (tt, record { fits = omega arith })

pub returns : goal.returns
returns c =
    let z = c.args.z in
    let a = above z c.ranges.z c.if-z-lt0.false in
    let is = to_z-of_z w64 z c.ranges.z ∙ a.1 in
    ap nat_abs is ∙ ap (unsigned 18446744073709551616) (sym a.1)
