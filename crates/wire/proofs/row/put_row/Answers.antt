-- `wire::row::put_row`: one value more, or none is left. Assumes nothing.
use mathlib.Core.Path.{◌∙◌, ap}
use Prim.Native.Nat.{◌<◌}
use lib.ListN.{length, drop}
use Rattle.std.proofs.Common.{length-append}
use native.Mathlib.Omega.{arith}
use Rattle.layout.specs.Written.{spelling}
use Rattle.layout.proofs.laws.Tidied.{never}
use Rattle.layout.proofs.laws.Writing.{start, part, end}
use Rattle.wire.specs.Tidy.{row_word, types}
use Rattle.wire.proofs.RowWords.{length_types, types_at, value_took, value_size, row_bad, row_rest, row_none}
use Rattle.wire.proofs.row.put_row.Goals as goal

pub loop-i-init : goal.loop-i-init
loop-i-init c = record { owes = start; read = c.requires.first_value }

pub returns-in_default : goal.returns-in_default
returns-in_default c =
    let a = c.args in
    let l = c.loop-i in
    let ks = types a.codes.now a.n in
    let h : l.i < length ks = omega (arith, length_types a.codes.now a.n) in
    let is = c.type_at-code.ensures ∙ types_at a.codes.now a.n l.i c.loop-i-test.true in
    never (row_word (drop l.i ks) a.src.now l.at) _ (row_bad ks a.src.now l.i l.at _ h is _ c.in_default.ensures) l.invariant.read

pub put_value-o-requires-clause-at_value : goal.put_value-o-requires-clause-at_value
put_value-o-requires-clause-at_value c =
    let a = c.args in
    let l = c.loop-i in
    let ks = types a.codes.now a.n in
    let h : l.i < length ks = omega (arith, length_types a.codes.now a.n) in
    value_took ks a.src.now l.i l.at _ h (c.type_at-code.ensures ∙ types_at a.codes.now a.n l.i c.loop-i-test.true) l.invariant.read _ _ c.in-Ok.ensures

pub put_value-o-requires-clause-tidy_value : goal.put_value-o-requires-clause-tidy_value
put_value-o-requires-clause-tidy_value c =
    let a = c.args in
    let l = c.loop-i in
    let ks = types a.codes.now a.n in
    let h : l.i < length ks = omega (arith, length_types a.codes.now a.n) in
    value_size ks a.src.now l.i l.at _ h (c.type_at-code.ensures ∙ types_at a.codes.now a.n l.i c.loop-i-test.true) l.invariant.read _ _ c.in-Ok.ensures

pub put_value-o-requires-clause-tidy_in_bounds : goal.put_value-o-requires-clause-tidy_in_bounds
put_value-o-requires-clause-tidy_in_bounds c =
    let a = c.args in
    let l = c.loop-i in
    let ks = types a.codes.now a.n in
    let h : l.i < length ks = omega (arith, length_types a.codes.now a.n) in
    let is = c.type_at-code.ensures ∙ types_at a.codes.now a.n l.i c.loop-i-test.true in
    let z = value_size ks a.src.now l.i l.at _ h is l.invariant.read _ _ c.in-Ok.ensures in
    let r = row_rest ks a.src.now l.i l.at _ h is l.invariant.read _ _ c.in-Ok.ensures in
    omega (arith, z, l.invariant.owes.place, l.invariant.owes.long, c.requires.first_in_bounds, simp length-append at (ap length r.1))

pub loop-i-preserved : goal.loop-i-preserved
loop-i-preserved c =
    let a = c.args in
    let l = c.loop-i in
    let ks = types a.codes.now a.n in
    let h : l.i < length ks = omega (arith, length_types a.codes.now a.n) in
    let is = c.type_at-code.ensures ∙ types_at a.codes.now a.n l.i c.loop-i-test.true in
    let r = row_rest ks a.src.now l.i l.at _ h is l.invariant.read _ _ c.in-Ok.ensures in
    record { owes = part r.1 l.invariant.owes c.put_value-o.ensures; read = r.0 }

pub returns : goal.returns
returns c =
    let a = c.args in
    let l = c.loop-i in
    end (ap spelling (row_none (types a.codes.now a.n) a.src.now l.i l.at (omega (arith, length_types a.codes.now a.n)))) l.invariant.owes
