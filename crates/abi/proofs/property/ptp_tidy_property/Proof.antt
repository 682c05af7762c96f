-- `abi::property::ptp_tidy_property`: the tidy spelling, by the layout that was named. Assumes nothing.
use Rattle.layout.specs.Answer.{says_count}
use Rattle.std.proofs.Common.{rules}
use Rattle.abi.proofs.property.ptp_tidy_property.Statement.{statement}
use Rattle.abi.proofs.property.ptp_tidy_property.Tie as tie

returns : tie.Need-returns
returns c =
    let w = c.tidy_property in
    record { answer = says_count w.result; allows = rw (← c.named.ensures) w.ensures; told = c.told.ensures }

pub ptp_tidy_property_spec : {M : Type 1} → statement M
ptp_tidy_property_spec = tie.close (tie.spec (λ c κs. search rules) (λ c κs. search rules) (λ c κs. search rules) (λ c. search rules) returns)
