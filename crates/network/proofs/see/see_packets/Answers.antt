use Rattle.std.proofs.Common.{arith}
use Rattle.network.specs.Translated.{look_packet}
use Rattle.network.proofs.SeenLoop.{packet_seen}
use Rattle.network.proofs.see.see_packets.Goals as goal

pub look_packet-t-requires : goal.look_packet-t-requires
unfolding look_packet
look_packet-t-requires c =
    let p = packet_seen c.loop-at.invariant c.loop-at-test.true c.in_ok-x.ensures in
    omega (arith, p.1.sum, p.1.inside)

pub loop-at-smaller : goal.loop-at-smaller
loop-at-smaller c =
    let p = packet_seen c.loop-at.invariant c.loop-at-test.true c.in_ok-x.ensures in
    omega (arith, p.0, p.1.inside)
