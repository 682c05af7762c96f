-- A container that is not passed over ends the search.
use Rattle.std.proofs.Common.{◌≡◌, arith}
use Rattle.std.proofs.lemmas.Grind.{common_steps}
use Rattle.layout.specs.Answer.{got}
use Rattle.wire.specs.Container.{container_at}
use Rattle.session.proofs.Answered.{ends_none, ends_unread, ends_another, ends_response, passed_more, goes_on}
use Rattle.session.proofs.search.search.Goals as goal

pub returns-in_err-x : goal.returns-in_err-x
returns-in_err-x c = grind (arith, common_steps, ends_unread _ _ c.loop-at.invariant c.loop-at-test.true)

pub returns-then-x-number : goal.returns-then-x-number
returns-then-x-number c =
    let read : got c.in_ok-x.x c.in_ok-x.next.at ≡ container_at c.args.s.now c.loop-at.at = grind (arith, common_steps) in
    ends_another _ _ c.loop-at.invariant read c.if-x-number.true c.plain.ensures

pub returns-then-x-eq3 : goal.returns-then-x-eq3
returns-then-x-eq3 c =
    let read : got c.in_ok-x.x c.in_ok-x.next.at ≡ container_at c.args.s.now c.loop-at.at = grind (arith, common_steps) in
    ends_response _ _ c.loop-at.invariant read c.if-x-number.false c.if-x-eq3.true

pub loop-at-smaller : goal.loop-at-smaller
loop-at-smaller c =
    let read : got c.in_ok-x.x c.in_ok-x.next.at ≡ container_at c.args.s.now c.loop-at.at = grind (arith, common_steps) in
    let more = goes_on _ _ c.loop-at.invariant read in
    let passed = passed_more _ _ c.loop-at.invariant read c.if-x-number.false c.if-x-eq3.false in
    omega arith

pub returns : goal.returns
returns c = ends_none _ _ c.loop-at.invariant c.loop-at-test.false c.plain-2.ensures
