-- `wire::container::write_container`: kind, length, room, or the bytes. Assumes nothing.
use mathlib.Core.Path.{◌∙◌, sym}
use native.Mathlib.Omega.{arith}
use Rattle.layout.proofs.laws.Writing.{refusal, no_room, done}
use Rattle.wire.proofs.laws.Contained.{container_length, container_put, said_4, said_10, said_bytes}
use Rattle.wire.proofs.container.write_container.Goals as goal

pub returns-then-not-is_kind : goal.returns-then-not-is_kind
returns-then-not-is_kind c =
    let a = c.args in
    rw c.plain.ensures (refusal (said_4 a.kind a.code a.number a.payload.now (sym c.is_kind.ensures ∙ c.if-not-is_kind.true)))

pub returns-then-payload-gt4294967283 : goal.returns-then-payload-gt4294967283
returns-then-payload-gt4294967283 c =
    let a = c.args in
    rw c.plain-then-payload-gt4294967283.ensures (refusal (said_10 a.kind a.code a.number a.payload.now (sym c.is_kind.ensures ∙ c.if-not-is_kind.false) c.if-payload-gt4294967283.true))

pub returns-then-out-whole : goal.returns-then-out-whole
returns-then-out-whole c =
    let a = c.args in
    no_room (said_bytes a.kind a.code a.number a.payload.now (sym c.is_kind.ensures ∙ c.if-not-is_kind.false) c.if-payload-gt4294967283.false)
    (omega (arith, container_length a.kind a.code a.number a.payload.now)) c.plain-then-out-whole.ensures

pub returns : goal.returns
returns c =
    let a = c.args in
    done (said_bytes a.kind a.code a.number a.payload.now (sym c.is_kind.ensures ∙ c.if-not-is_kind.false) c.if-payload-gt4294967283.false)
    (omega (arith, c.if-out-whole.false, container_length a.kind a.code a.number a.payload.now))
    (container_put a.kind a.code a.number a.payload.now c.if-out-whole.false c.store-a.ensures c.store-b.ensures c.store-c.ensures c.store-d.ensures c.copy.ensures)
