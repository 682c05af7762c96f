-- `wire::write::measure_text`: a string that is read, and how long its tidy spelling is. Assumes nothing.
use Rattle.std.proofs.lemmas.Result.{err_from_is_err_and}
use native.Mathlib.Omega.{arith}
use Rattle.layout.proofs.laws.Numbers.{bytes_of}
use Rattle.wire.proofs.Spelled.{text_stood, measure_got, measure_refused}
use Rattle.wire.proofs.write.measure_text.Goals as goal

pub returns-in_err-units : goal.returns-in_err-units
returns-in_err-units c =
    let p = err_from_is_err_and c.from_residual.result c.from_residual.ensures.1 in
    rw (p.1, p.2) (measure_refused _ _ _ c.in_err-units.ensures)

pub overflow_sub-next : goal.overflow_sub-next
overflow_sub-next c = let h = text_stood _ _ _ _ c.in_ok-units.ensures in omega arith

pub returns : goal.returns
returns c = measure_got _ _ _ _ _ (bytes_of _ (λ i. (c.type_inv.src i).fits)) c.in_ok-units.ensures c.tidy_len.ensures
