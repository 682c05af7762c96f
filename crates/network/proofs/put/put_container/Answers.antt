-- `network::put::put_container`: the twelve bytes, and its payload. Assumes nothing.
use native.Mathlib.Omega.{arith}
use Rattle.layout.proofs.laws.Stored.{first, room_left}
use Rattle.wire.specs.Returned.{part_of}
use Rattle.network.proofs.PutLaws.{part_length, box_put, head_length}
use Rattle.network.proofs.put.put_container.Goals as goal

pub returns : goal.returns
returns c =
    let a = c.args in
    let s = a.s.now in
    let n = a.body.count in
    let long = part_length s a.body c.requires.0 in
    let p = c.put_container_head-a.ensures in
    let room = room_left p n (omega (arith, c.requires.1, head_length a.kind a.code a.number n)) in
    box_put a.kind a.code a.number n long p (first {bs = part_of s a.body} (omega arith) c.copy.ensures)
