use Rattle.std.proofs.Common.{sym, ap, arith}
use Rattle.layout.proofs.laws.Writing.{done, nothing}
use Rattle.abi.specs.Rows.{step_said}
use Rattle.abi.proofs.value.give_step.Goals as goal

pub returns-in-Some : goal.returns-in-Some
returns-in-Some c = rw (← c.in-Some.ensures, ← c.step_row.ensures) c.give.ensures

pub returns-in-None : goal.returns-in-None
returns-in-None c = done (sym (ap step_said c.in-None.ensures)) (omega arith) nothing
