-- `wire::row::measure_numbers`: one span of all the bytes. Assumes nothing.
use native.Mathlib.Omega.{arith}
use Rattle.layout.proofs.laws.Reading.{span_within}
use Rattle.wire.proofs.row.measure_numbers.Goals as goal

pub overflow_sub-result : goal.overflow_sub-result
overflow_sub-result c = let h = span_within _ _ _ _ _ c.in_ok-next.ensures in omega arith
