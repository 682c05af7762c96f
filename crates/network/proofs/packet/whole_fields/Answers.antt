-- `network::packet::whole_fields`: its tests in their order. Assumes nothing.
use borrow.Author.Tests.{eq-eqb, ne_eqb, le-leb, lt-leb}
use Rattle.network.specs.Packet.{whole_fields, head_size}
use Rattle.network.proofs.packet.whole_fields.Goals as goal

pub returns-then-len-head : goal.returns-then-len-head
unfolding whole_fields
returns-then-len-head c =
    let a = c.args in
    let h = c.head_size-head.ensures in
    rw (lt-leb (head_size a.kind) a.len (rw h at c.if-len-head.true))

pub returns-then-kind-eq9 : goal.returns-then-kind-eq9
unfolding whole_fields
returns-then-kind-eq9 c =
    let a = c.args in
    let h = c.head_size-head.ensures in
    rw (h, le-leb (head_size a.kind) a.len (rw h at c.if-len-head.false), eq-eqb a.kind 9 c.if-kind-eq9.true)

pub returns-then-kind-eq6 : goal.returns-then-kind-eq6
unfolding whole_fields
returns-then-kind-eq6 c =
    let a = c.args in
    let h = c.head_size-head.ensures in
    rw (h, le-leb (head_size a.kind) a.len (rw h at c.if-len-head.false), ne_eqb a.kind 9 c.if-kind-eq9.false, eq-eqb a.kind 6 c.if-kind-eq6.true)

pub returns-then-kind-eq7 : goal.returns-then-kind-eq7
unfolding whole_fields
returns-then-kind-eq7 c =
    let a = c.args in
    let h = c.head_size-head.ensures in
    rw (h, le-leb (head_size a.kind) a.len (rw h at c.if-len-head.false), ne_eqb a.kind 9 c.if-kind-eq9.false, ne_eqb a.kind 6 c.if-kind-eq6.false, eq-eqb a.kind 7 c.if-kind-eq7.true)

pub returns : goal.returns
unfolding whole_fields
returns c =
    let a = c.args in
    let h = c.head_size-head.ensures in
    rw (le-leb (head_size a.kind) a.len (rw h at c.if-len-head.false), ne_eqb a.kind 9 c.if-kind-eq9.false, ne_eqb a.kind 6 c.if-kind-eq6.false, ne_eqb a.kind 7 c.if-kind-eq7.false)
