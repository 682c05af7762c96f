-- The tests in their order, then all packets.
use Rattle.std.proofs.Common.{◌+◌, length, sym, ◌∙◌, arith}
use borrow.Author.Tests.{not-true, not-false, leb-true, leb-false}
use Rattle.layout.specs.Answer.{pick}
use Rattle.layout.proofs.laws.Writing.{refusal, no_room, done}
use Rattle.network.proofs.TranslatedLaws.{need_same, tidy_length, to_22, to_7, to_bytes}
use Rattle.network.proofs.translate.write_packets.Goals as goal

pub returns-then-not-is_answered : goal.returns-then-not-is_answered
returns-then-not-is_answered c =
    let a = c.args in
    rw c.plain.ensures (refusal (to_22 a.d a.s.now a.t (sym c.is_answered.ensures ∙ c.if-not-is_answered.true)))

pub returns-then-not-t : goal.returns-then-not-t
returns-then-not-t c =
    let a = c.args in
    rw c.plain-then-not-t.ensures (refusal (to_7 a.d a.s.now a.t (sym c.is_answered.ensures ∙ c.if-not-is_answered.false) (not-true _ c.if-not-t.true)))

pub returns-then-not-has_room : goal.returns-then-not-has_room
returns-then-not-has_room c =
    let a = c.args in
    let t = a.t in
    let room = rw (c.size_if.ensures, c.size_if-2.ensures, need_same t.has t.params.count t.payload.count t.results.count) at (sym c.has_room.ensures ∙ c.if-not-has_room.true) in
    let enough = leb-false (32 + t.params.count + pick t.has (32 + t.payload.count) 0 + t.results.count) (length a.out.now) room in
    no_room (to_bytes a.d a.s.now t (sym c.is_answered.ensures ∙ c.if-not-is_answered.false) (not-false _ c.if-not-t.false)) (omega (arith, enough, tidy_length a.s.now t c.requires a.d)) c.plain-then-not-has_room.ensures

pub returns : goal.returns
returns c =
    let a = c.args in
    let t = a.t in
    let room = rw (c.size_if.ensures, c.size_if-2.ensures, need_same t.has t.params.count t.payload.count t.results.count) at (sym c.has_room.ensures ∙ c.if-not-has_room.false) in
    let enough = leb-true (32 + t.params.count + pick t.has (32 + t.payload.count) 0 + t.results.count) (length a.out.now) room in
    done (to_bytes a.d a.s.now t (sym c.is_answered.ensures ∙ c.if-not-is_answered.false) (not-false _ c.if-not-t.false)) (omega (arith, enough, tidy_length a.s.now t c.requires a.d)) c.put_packets.ensures
