-- `abi::property::ptp_list_value`: a value of the list, by the layout that was named. Assumes nothing.
use Rattle.layout.specs.Answer.{says_count}
use Rattle.std.proofs.Common.{rules}
use Rattle.abi.proofs.property.ptp_list_value.Statement.{statement}
use Rattle.abi.proofs.property.ptp_list_value.Tie as tie

returns : tie.Need-returns
returns c =
    let w = c.give_value in
    record { answer = says_count w.result; allows = rw (← c.named.ensures) w.ensures; told = c.told.ensures }

pub ptp_list_value_spec : {M : Type 1} → statement M
ptp_list_value_spec = tie.close (tie.spec (λ c κs. search rules) (λ c κs. search rules) (λ c κs. search rules) (λ c. search rules) returns)
