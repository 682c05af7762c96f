-- `wire::row::measure_row`: one value more, or none is left. Assumes nothing.
use mathlib.Core.Path.{◌∙◌}
use Prim.Native.Nat.{◌<◌}
use lib.ListN.{length}
use Rattle.std.proofs.lemmas.Result.{err_from_is_err_and}
use native.Mathlib.Omega.{arith}
use Rattle.layout.proofs.laws.Numbers.{bytes_of}
use Rattle.wire.specs.Tidy.{types}
use Rattle.wire.proofs.ValueLaws.{value_shrunk}
use Rattle.wire.proofs.RowWords.{length_types, types_at, sum_start, sum_bad, sum_more, sum_none}
use Rattle.wire.proofs.row.measure_row.Goals as goal

pub loop-i-init : goal.loop-i-init
loop-i-init c = record { adds = sum_start _ _ _; inside = omega arith; shorter = omega arith }

pub returns-in_err-tidy : goal.returns-in_err-tidy
returns-in_err-tidy c =
    let a = c.args in
    let l = c.loop-i in
    let h : l.i < length (types a.codes.now a.n) = omega (arith, length_types a.codes.now a.n) in
    let p = err_from_is_err_and c.from_residual.result c.from_residual.ensures.1 in
    rw (p.1, p.2) (sum_bad _ _ l.i l.at _ h (c.type_at.ensures ∙ types_at a.codes.now a.n l.i c.loop-i-test.true) l.need _ c.in_err-tidy.ensures ∙ l.invariant.adds)

pub overflow_add-need : goal.overflow_add-need
overflow_add-need c =
    let w = value_shrunk c.type_at.result _ (bytes_of _ (λ i. (c.type_inv.src i).fits)) c.loop-i.at _ _ c.in_ok-tidy.ensures in
    omega arith

pub loop-i-preserved : goal.loop-i-preserved
loop-i-preserved c =
    let a = c.args in
    let l = c.loop-i in
    let h : l.i < length (types a.codes.now a.n) = omega (arith, length_types a.codes.now a.n) in
    let w = value_shrunk c.type_at.result _ (bytes_of _ (λ i. (c.type_inv.src i).fits)) l.at _ _ c.in_ok-tidy.ensures in
    record {
      adds = sum_more _ _ l.i l.at _ h (c.type_at.ensures ∙ types_at a.codes.now a.n l.i c.loop-i-test.true) l.need _ _ c.in_ok-tidy.ensures ∙ l.invariant.adds;
      inside = omega arith;
      shorter = omega arith;
    }

pub returns : goal.returns
returns c =
    let a = c.args in
    let l = c.loop-i in
    sum_none _ _ l.i l.at l.need (omega (arith, length_types a.codes.now a.n)) ∙ l.invariant.adds
