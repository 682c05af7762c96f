-- The tests in their order, then all containers.
use Rattle.std.proofs.Common.{◌+◌, length, sym, ◌∙◌, arith}
use borrow.Author.Tests.{not-true, not-false, leb-true, leb-false}
use Rattle.layout.specs.Answer.{pick}
use Rattle.layout.proofs.laws.Writing.{refusal, no_room, done}
use Rattle.network.specs.Inner.{data_of}
use Rattle.network.proofs.TranslatedLaws.{containers_length, from_22, from_21, from_7, from_10, from_bytes}
use Rattle.network.proofs.translate.write_containers.Goals as goal

pub returns-then-not-is_answered : goal.returns-then-not-is_answered
returns-then-not-is_answered c =
    let a = c.args in
    rw c.plain.ensures (refusal (from_22 a.s.now a.t (data_of a.s.now) (sym c.is_answered.ensures ∙ c.if-not-is_answered.true)))

pub returns-then-t : goal.returns-then-t
returns-then-t c =
    let a = c.args in
    rw c.plain-then-t.ensures (refusal (from_21 a.s.now a.t (data_of a.s.now) (sym c.is_answered.ensures ∙ c.if-not-is_answered.false) (λ e. c.if-t.true (c.requires.2 ∙ e))))

pub returns-then-not-t : goal.returns-then-not-t
returns-then-not-t c =
    let a = c.args in
    rw c.plain-then-not-t.ensures (refusal (from_7 a.s.now a.t (data_of a.s.now) (sym c.is_answered.ensures ∙ c.if-not-is_answered.false) (sym c.requires.2 ∙ c.if-t.false) (not-true _ c.if-not-t.true)))

pub returns-then-t-gt4294967283 : goal.returns-then-t-gt4294967283
returns-then-t-gt4294967283 c =
    let a = c.args in
    rw c.plain-then-t-gt4294967283.ensures (refusal (from_10 a.s.now a.t (data_of a.s.now) (sym c.is_answered.ensures ∙ c.if-not-is_answered.false) (sym c.requires.2 ∙ c.if-t.false) (not-false _ c.if-not-t.false) (rw c.requires.2 at c.if-t-gt4294967283.true)))

pub returns-then-not-has_room : goal.returns-then-not-has_room
returns-then-not-has_room c =
    let a = c.args in
    let t = a.t in
    let d = data_of a.s.now in
    let room = rw (c.size_if.ensures, c.requires.2) at (sym c.has_room.ensures ∙ c.if-not-has_room.true) in
    let enough = leb-false (24 + t.params.count + pick t.has (12 + length d) 0 + t.results.count) (length a.out.now) room in
    no_room (from_bytes a.s.now t d (sym c.is_answered.ensures ∙ c.if-not-is_answered.false) (sym c.requires.2 ∙ c.if-t.false) (not-false _ c.if-not-t.false) (rw c.requires.2 at c.if-t-gt4294967283.false)) (omega (arith, enough, containers_length a.s.now t c.requires.0 d)) c.plain-then-not-has_room.ensures

pub returns : goal.returns
returns c =
    let a = c.args in
    let t = a.t in
    let d = data_of a.s.now in
    let room = rw (c.size_if.ensures, c.requires.2) at (sym c.has_room.ensures ∙ c.if-not-has_room.false) in
    let enough = leb-true (24 + t.params.count + pick t.has (12 + length d) 0 + t.results.count) (length a.out.now) room in
    done (from_bytes a.s.now t d (sym c.is_answered.ensures ∙ c.if-not-is_answered.false) (sym c.requires.2 ∙ c.if-t.false) (not-false _ c.if-not-t.false) (rw c.requires.2 at c.if-t-gt4294967283.false)) (omega (arith, enough, containers_length a.s.now t c.requires.0 d)) c.put_containers.ensures
