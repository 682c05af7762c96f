-- `recording::put_record`: the room's test, then three stores in a row. Assumes nothing.
use mathlib.Core.Path.{refl}
use native.Mathlib.Omega.{arith}
use Rattle.layout.proofs.laws.Writing.{no_room, done}
use Rattle.recording.proofs.Recorded.{record_length, record_put}
use Rattle.recording.proofs.put_record.Goals as goal

pub returns-then-out-whole : goal.returns-then-out-whole
returns-then-out-whole c = no_room refl (omega (arith, record_length c.args.kind c.args.body.now)) c.plain.ensures

pub returns : goal.returns
returns c =
    let a = c.args in
    done refl (omega (arith, c.if-out-whole.false, record_length a.kind a.body.now))
    (record_put a.kind a.body.now c.if-out-whole.false c.store-a.ensures c.store-b.ensures c.copy.ensures)
