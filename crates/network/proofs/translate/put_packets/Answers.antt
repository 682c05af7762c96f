-- `network::translate::put_packets`: request, data and response in a row. Assumes nothing.
use native.Mathlib.Omega.{arith}
use mathlib.Core.Path.{◌≡◌}
use lib.ListN.{length}
use Prim.Native.Nat.{◌+◌}
use Rattle.layout.specs.Answer.{pick}
use Rattle.layout.proofs.laws.Writing.{then, long}
use Rattle.wire.specs.Returned.{part_of}
use Rattle.network.specs.Packet.{phase_size, code_size, total_size}
use Rattle.network.specs.Transaction.{tidy_word}
use Rattle.network.proofs.PutLaws.{part_length, packet_length}
use Rattle.network.proofs.TranslatedLaws.{phase-if, data_packets_length}
use Rattle.network.proofs.translate.put_packets.Goals as goal

pub put_packet-a-requires : goal.put_packet-a-requires
unfolding phase_size code_size total_size
put_packet-a-requires c =
    (c.requires.0.params, omega (arith, c.requires.1))

pub put_data-b-requires : goal.put_data-b-requires
unfolding phase_size code_size total_size
put_data-b-requires c =
    let a = c.args in
    let s = a.s.now in
    let w = c.requires.0 in
    let p = c.put_packet-a.ensures in
    (w.payload, omega (arith, c.requires.1, p.place, long p, packet_length 6 c.phase_of.result a.t.code a.t.number 0 (part_of s a.t.params), part_length s a.t.params w.params))

pub put_packet-requires : goal.put_packet-requires
unfolding phase_size code_size total_size
put_packet-requires c =
    let a = c.args in
    let s = a.s.now in
    let w = c.requires.0 in
    let p = then c.put_packet-a.ensures c.put_data-b.ensures in
    let l : pick a.t.has (32 + length (part_of s a.t.payload)) 0 ≡ pick a.t.has (32 + a.t.payload.count) 0 = rw (part_length s a.t.payload w.payload) in
    (w.results, omega (arith, c.requires.1, c.put_data-b.ensures.place, long p, c.put_packet-a.ensures.place, l, data_packets_length a.t.number a.t.has (part_of s a.t.payload), packet_length 6 c.phase_of.result a.t.code a.t.number 0 (part_of s a.t.params), part_length s a.t.params w.params))

pub returns : goal.returns
unfolding tidy_word
returns c =
    let a = c.args in
    let s = a.s.now in
    rw (phase-if a.d a.t.has (part_of s a.t.payload), ← c.phase_of.ensures) (then (then c.put_packet-a.ensures c.put_data-b.ensures) c.put_packet.ensures)
