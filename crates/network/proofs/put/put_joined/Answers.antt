-- `network::put::put_joined`: nothing, or the twelve bytes and the data. Assumes nothing.
use native.Mathlib.Omega.{arith}
use mathlib.Core.Path.{sym}
use Rattle.layout.proofs.laws.Writing.{nothing, long}
use Rattle.network.specs.Transaction.{data_container}
use Rattle.network.proofs.PutLaws.{head_length, box_put}
use Rattle.network.proofs.put.put_joined.Goals as goal

pub returns-then-not-has : goal.returns-then-not-has
unfolding data_container
returns-then-not-has c = rw (c.if-not-has.true) nothing

pub put_container_head-a-requires : goal.put_container_head-a-requires
put_container_head-a-requires c = rw (c.if-not-has.false) at c.requires.2

pub put_pieces-requires : goal.put_pieces-requires
put_pieces-requires c =
    let a = c.args in
    let r = rw (c.if-not-has.false) at c.requires.2 in
    let p = c.put_container_head-a.ensures in
    (c.requires.0, omega (arith, r, p.place, long p, c.requires.1, head_length 2 a.code a.number a.sum))

pub returns : goal.returns
unfolding data_container
returns c =
    let a = c.args in
    rw (c.if-not-has.false) (box_put 2 a.code a.number a.sum (sym c.requires.1) c.put_container_head-a.ensures c.put_pieces.ensures)
