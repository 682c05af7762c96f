-- `wire::row::measure_value`: by the type's shape. Assumes nothing.
use mathlib.Core.Path.{◌∙◌, ap, sym, refl}
use lib.ListN.{length}
use Rattle.std.proofs.lemmas.Result.{err_from_is_err_and}
use native.Mathlib.Omega.{arith}
use Rattle.layout.specs.Answer.{means}
use Rattle.layout.proofs.laws.Numbers.{bytes_of}
use Rattle.layout.proofs.laws.Reading.{follow, stop, span_within}
use Rattle.wire.specs.Says.{says_kind}
use Rattle.wire.proofs.ValueLaws.{value_one, value_many, value_string, value_undef, array_ahead}
use Rattle.wire.proofs.row.measure_value.Goals as goal

pub returns-in_err-next-in-One : goal.returns-in_err-next-in-One
returns-in_err-next-in-One c =
    let a = c.args in
    let p = err_from_is_err_and c.from_residual.result c.from_residual.ensures.1 in
    rw (p.1, p.2) (stop _ (rw c.width_of.ensures.0 at c.in_err-next-in-One.ensures) ∙ value_one a.code a.src.now a.at (bytes_of _ (λ i. (c.type_inv.src i).fits)) (says_kind c.in-One.k) c.in-One.ensures)

pub overflow_sub-result : goal.overflow_sub-result
overflow_sub-result c = let h = span_within _ _ _ _ _ c.in_ok-next-in-One.ensures in omega arith

pub returns-in_ok-next-in-One : goal.returns-in_ok-next-in-One
returns-in_ok-next-in-One c =
    let a = c.args in
    follow _ (rw c.width_of.ensures.0 at c.in_ok-next-in-One.ensures) refl ∙ value_one a.code a.src.now a.at (bytes_of _ (λ i. (c.type_inv.src i).fits)) (says_kind c.in-One.k) c.in-One.ensures

pub returns-in_err-next-in-Many : goal.returns-in_err-next-in-Many
returns-in_err-next-in-Many c =
    let a = c.args in
    let p = err_from_is_err_and c.from_residual-in_err-next-in-Many.result c.from_residual-in_err-next-in-Many.ensures.1 in
    rw (p.1, p.2) (stop _ (rw c.width_of-in-Many.ensures.0 at c.in_err-next-in-Many.ensures) ∙ value_many a.code a.src.now a.at (bytes_of _ (λ i. (c.type_inv.src i).fits)) (says_kind c.in-Many.k) c.in-Many.ensures)

pub overflow_sub-result-in-Many : goal.overflow_sub-result-in-Many
overflow_sub-result-in-Many c = let a = c.args in array_ahead _ a.src.now (bytes_of _ (λ i. (c.type_inv.src i).fits)) a.at _ _ c.in_ok-next-in-Many.ensures

pub returns-in_ok-next-in-Many : goal.returns-in_ok-next-in-Many
returns-in_ok-next-in-Many c =
    let a = c.args in
    follow _ (rw c.width_of-in-Many.ensures.0 at c.in_ok-next-in-Many.ensures) refl ∙ value_many a.code a.src.now a.at (bytes_of _ (λ i. (c.type_inv.src i).fits)) (says_kind c.in-Many.k) c.in-Many.ensures

pub returns-in-Text : goal.returns-in-Text
returns-in-Text c = let a = c.args in c.measure_text.ensures ∙ ap (means length) (sym (value_string a.code a.src.now a.at c.in-Text.ensures))

pub returns-in-Undef : goal.returns-in-Undef
returns-in-Undef c = let a = c.args in value_undef a.code a.src.now a.at c.in-Undef.ensures
