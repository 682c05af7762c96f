-- `abi::packet::packet_row`: number by number. Assumes nothing.
use Rattle.std.proofs.Common.{rules}
use Rattle.abi.proofs.packet.packet_row.Statement.{statement}
use Rattle.abi.proofs.packet.packet_row.Tie as tie

pub packet_row_spec : {M : Type 1} → statement M
packet_row_spec =
    tie.close (tie.spec (λ c κs. search rules) (λ c. search rules) (λ c. search rules) (λ c. search rules) (λ c. search rules) (λ c. rw c.body_start-start.ensures))
