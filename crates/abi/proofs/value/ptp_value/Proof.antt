-- `abi::value::ptp_value`: what was read, as a row. Assumes nothing.
use Rattle.layout.specs.Answer.{says_count}
use Rattle.std.proofs.Common.{rules}
use Rattle.abi.proofs.value.ptp_value.Statement.{statement}
use Rattle.abi.proofs.value.ptp_value.Tie as tie

returns : tie.Need-returns
returns c = record { answer = says_count c.give_read.result; allows = rw (← c.value.ensures) c.give_read.ensures; told = c.told.ensures }

pub ptp_value_spec : {M : Type 1} → statement M
ptp_value_spec = tie.close (tie.spec (λ c κs. search rules) (λ c κs. search rules) (λ c κs. search rules) (λ c. search rules) returns)
