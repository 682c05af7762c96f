use Rattle.std.proofs.Common.{arith}
use Rattle.layout.specs.Bytes.{number}
use Rattle.layout.proofs.laws.Accepted.{accepted, accepts_field}
use Rattle.network.proofs.packet.read_packet.Goals as goal

pub packet_rest-requires : goal.packet_rest-requires
packet_rest-requires c =
    let a = c.args in
    let p = accepted _ (accepts_field 4 number a.s.now a.c.at) c.in_ok-len.ensures in
    let q = accepted _ (accepts_field 4 number a.s.now _) c.in_ok-kind.ensures in
    omega arith
