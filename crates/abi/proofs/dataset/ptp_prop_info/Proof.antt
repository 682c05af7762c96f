-- `abi::dataset::ptp_prop_info`: the description's row, by the layout that was named. Assumes nothing.
use Rattle.layout.specs.Answer.{says_count}
use Rattle.std.proofs.Common.{rules}
use Rattle.abi.proofs.dataset.ptp_prop_info.Statement.{statement}
use Rattle.abi.proofs.dataset.ptp_prop_info.Tie as tie

returns : tie.Need-returns
returns c =
    let w = c.give_prop in
    record { answer = says_count w.result; allows = rw (← c.named.ensures) w.ensures; told = c.told.ensures }

pub ptp_prop_info_spec : {M : Type 1} → statement M
ptp_prop_info_spec = tie.close (tie.spec (λ c κs. search rules) (λ c κs. search rules) (λ c κs. search rules) (λ c. search rules) returns)
