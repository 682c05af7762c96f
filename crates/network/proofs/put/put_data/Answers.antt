-- `network::put::put_data`: nothing, or two packets. Assumes nothing.
use native.Mathlib.Omega.{arith}
use mathlib.Core.List.{[]}
use Rattle.layout.proofs.laws.Writing.{nothing, then, long}
use Rattle.network.specs.Packet.{phase_size, code_size, total_size}
use Rattle.network.specs.Transaction.{data_packets}
use Rattle.network.proofs.PutLaws.{part_length, packet_length}
use Rattle.network.proofs.put.put_data.Goals as goal

pub returns-then-not-has : goal.returns-then-not-has
unfolding data_packets
returns-then-not-has c = rw (c.if-not-has.true) nothing

pub put_packet-a-requires : goal.put_packet-a-requires
unfolding phase_size code_size total_size
put_packet-a-requires c =
    let r = rw (c.if-not-has.false) at c.requires.1 in
    (omega arith, omega (arith, r))

pub put_packet-requires : goal.put_packet-requires
unfolding phase_size code_size total_size
put_packet-requires c =
    let a = c.args in
    let r = rw (c.if-not-has.false) at c.requires.1 in
    let p = c.put_packet-a.ensures in
    (c.requires.0, omega (arith, r, p.place, long p, packet_length 9 0 0 a.number a.body.count []))

pub returns : goal.returns
unfolding data_packets
returns c =
    let a = c.args in
    rw (c.if-not-has.false, part_length a.s.now a.body c.requires.0) (then c.put_packet-a.ensures c.put_packet.ensures)
