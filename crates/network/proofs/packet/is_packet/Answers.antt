-- `network::packet::is_packet`: five tests. Assumes nothing.
use borrow.Author.Tests.{eq-eqb, ne_eqb}
use Rattle.network.specs.Packet.{is_packet}
use Rattle.network.proofs.packet.is_packet.Goals as goal

pub returns-then-kind-eq6 : goal.returns-then-kind-eq6
unfolding is_packet
returns-then-kind-eq6 c = simp (eq-eqb _ _ c.if-kind-eq6.true)

pub returns-then-kind-eq7 : goal.returns-then-kind-eq7
unfolding is_packet
returns-then-kind-eq7 c = simp (ne_eqb _ _ c.if-kind-eq6.false, eq-eqb _ _ c.if-kind-eq7.true)

pub returns-then-kind-eq9 : goal.returns-then-kind-eq9
unfolding is_packet
returns-then-kind-eq9 c = simp (ne_eqb _ _ c.if-kind-eq6.false, ne_eqb _ _ c.if-kind-eq7.false, eq-eqb _ _ c.if-kind-eq9.true)

pub returns-then-kind-eq10 : goal.returns-then-kind-eq10
unfolding is_packet
returns-then-kind-eq10 c = simp (ne_eqb _ _ c.if-kind-eq6.false, ne_eqb _ _ c.if-kind-eq7.false, ne_eqb _ _ c.if-kind-eq9.false, eq-eqb _ _ c.if-kind-eq10.true)

pub returns : goal.returns
unfolding is_packet
returns c =
    let k = c.args.kind in
    rw (ne_eqb k 6 c.if-kind-eq6.false, ne_eqb k 7 c.if-kind-eq7.false, ne_eqb k 9 c.if-kind-eq9.false, ne_eqb k 10 c.if-kind-eq10.false)
