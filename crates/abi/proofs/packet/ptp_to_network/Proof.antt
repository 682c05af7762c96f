-- `abi::packet::ptp_to_network`: the packets, by the direction that was named. Assumes nothing.
use Rattle.layout.specs.Answer.{says_count}
use Rattle.std.proofs.Common.{rules}
use Rattle.abi.proofs.packet.ptp_to_network.Statement.{statement}
use Rattle.abi.proofs.packet.ptp_to_network.Tie as tie

returns : tie.Need-returns
returns c =
    let w = c.to_network in
    record { answer = says_count w.result; allows = rw (← c.direction.ensures) w.ensures; told = c.told.ensures }

pub ptp_to_network_spec : {M : Type 1} → statement M
ptp_to_network_spec =
    tie.close (tie.spec (λ c κs. search rules) (λ c κs. search rules) (λ c κs. search rules) (λ c. search rules) returns)
