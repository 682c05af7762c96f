-- `network::translate::put_containers`: Command, data and Response in a row. Assumes nothing.
use native.Mathlib.Omega.{arith}
use mathlib.Core.Path.{◌≡◌}
use lib.ListN.{length}
use Prim.Native.Nat.{◌+◌}
use Rattle.layout.proofs.laws.Writing.{then, long}
use Rattle.wire.specs.Returned.{part_of}
use Rattle.wire.proofs.laws.Contained.{container_length}
use Rattle.network.specs.Inner.{data_of}
use Rattle.network.specs.Transaction.{containers_word}
use Rattle.network.proofs.PutLaws.{part_length}
use Rattle.layout.specs.Answer.{pick}
use Rattle.network.proofs.TranslatedLaws.{data_container_length}
use Rattle.network.proofs.translate.put_containers.Goals as goal

pub put_joined-b-requires : goal.put_joined-b-requires
put_joined-b-requires c =
    let a = c.args in
    let s = a.s.now in
    let p = c.put_container-a.ensures in
    (c.requires.1, c.requires.2, omega (arith, c.requires.3, p.place, long p, container_length 1 a.t.code a.t.number (part_of s a.t.params), part_length s a.t.params c.requires.0.params))

pub put_container-requires : goal.put_container-requires
put_container-requires c =
    let a = c.args in
    let s = a.s.now in
    let p = c.put_container-a.ensures in
    let q = c.put_joined-b.ensures in
    let l : pick a.t.has (12 + length (data_of s)) 0 ≡ pick a.t.has (12 + a.t.sum) 0 = rw c.requires.2 in
    (c.requires.0.results, omega (arith, c.requires.3, p.place, q.place, long (then p q), l, data_container_length a.t.code a.t.number a.t.has (data_of s), container_length 1 a.t.code a.t.number (part_of s a.t.params), part_length s a.t.params c.requires.0.params))

pub returns : goal.returns
unfolding containers_word
returns c =
    then (then c.put_container-a.ensures c.put_joined-b.ensures) c.put_container.ensures
