use Rattle.std.proofs.Common.{ℕ, ◌-◌, ◌%◌, ◌^◌, ap, ◌∙◌, arith}
use Rattle.abi.specs.Answered.{word}
use Rattle.abi.proofs.Minus.{minus}
use Rattle.abi.proofs.answer.told.Goals as goal

pub returns-in-Ok : goal.returns-in-Ok
unfolding word
returns-in-Ok c = rw c.in-Ok.is

pub returns-in-Err : goal.returns-in-Err
unfolding word
returns-in-Err c = rw c.in-Err.is (minus _ _ c.wrapping_sub_u64.ensures.value (omega arith) (omega arith) ∙ ap (λ (n : ℕ). (2 ^ 64 - n) % 2 ^ 64) c.number_and_place.ensures)
