-- `network::put::put_packet`: seven stores in a row. Assumes nothing.
use Rattle.wire.specs.Returned.{part_of}
use Rattle.network.proofs.PutLaws.{part_length, packet_put}
use Rattle.network.proofs.put.put_packet.Goals as goal

pub returns : goal.returns
returns c =
    let a = c.args in
    let s = a.s.now in
    packet_put a.kind a.phase a.code a.number a.total (part_of s a.body) a.body.count (part_length s a.body c.requires.0) c.requires.1
    (rw c.head_size.ensures at c.store-a.ensures)
    c.store-b.ensures
    (rw c.phase_size.ensures at c.store-c.ensures)
    (rw c.code_size.ensures at c.store-d.ensures)
    c.store-e.ensures
    (rw c.total_size.ensures at c.store-f.ensures)
    c.copy.ensures
