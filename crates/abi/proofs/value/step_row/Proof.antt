-- `abi::value::step_row`: its row, number by number. Assumes nothing.
use Rattle.std.proofs.Common.{length, ap, ◌∙◌, rules}
use Rattle.wire.specs.Says.{located}
use Rattle.abi.proofs.laws.Answers.{spread, value-long}
use Rattle.abi.proofs.value.step_row.Statement.{statement}
use Rattle.abi.proofs.value.step_row.Tie as tie

returns : tie.Need-returns
returns c =
    let x = c.value_row-x in
    rw (spread 3 x.result (ap length x.ensures ∙ value-long (located c.args.v)), x.ensures)

pub step_row_spec : {M : Type 1} → statement M
step_row_spec = tie.close (tie.spec (λ c κs. search rules) (λ c. search rules) (λ c. search rules) (λ c. search rules) returns)
