-- The tests of a turn are those of the definition, in their order; and the report has room.
-- Assumes nothing.
use Rattle.std.proofs.Common.{◌≡◌, refl, sym, ◌∙◌, arith}
use Rattle.turns.specs.Turn.{turn_of}
use Rattle.mending.specs.Turn.{state, step_of}
use Rattle.mending.proofs.Turning.{used_fits, told_fits, turn_goes, turn_ends, turn_asks}
use Rattle.mending.proofs.turn.take_turn.Goals as goal

pub overflow_add-from : goal.overflow_add-from
overflow_add-from c =
    let a = c.args in
    omega (arith, used_fits a.window.now a.s.hold (state a.s.stretches a.s.tally) (omega arith) (omega arith) (omega arith) c.mend_held-done.ensures)

pub put_lines-n-requires : goal.put_lines-n-requires
put_lines-n-requires c =
    let a = c.args in
    let f = told_fits a.window.now a.s.hold (state a.s.stretches a.s.tally) (omega arith) (omega arith) (omega arith) c.mend_held-done.ensures in
    (f.0, f.1, omega (arith, f.0))

pub returns-then-went_on : goal.returns-then-went_on
unfolding turn_of step_of
returns-then-went_on c =
    let a = c.args in
    let p = c.put_lines-n.ensures in
    rw (c.answer.ensures, c.standing-on.ensures)
    (turn_goes a.window.now a.s.hold (state a.s.stretches a.s.tally) (omega arith) (omega arith) (omega arith) c.mend_held-done.ensures refl (sym c.went_on.ensures ∙ c.if-went_on.true) p.0 p.1)

pub returns-then-ended : goal.returns-then-ended
unfolding turn_of step_of
returns-then-ended c =
    let a = c.args in
    let p = c.put_last-n.ensures in
    rw (c.answer-then-ended.ensures, c.standing-over.ensures)
    (turn_ends a.window.now a.s.hold (state a.s.stretches a.s.tally) (omega arith) (omega arith) (omega arith) c.mend_held-done.ensures refl (sym c.went_on.ensures ∙ c.if-went_on.false) c.if-ended.true p.0 p.1)

pub returns : goal.returns
unfolding turn_of step_of
returns c =
    let a = c.args in
    rw (c.answer-2.ensures, c.standing-more.ensures)
    (turn_asks a.window.now a.s.hold (state a.s.stretches a.s.tally) (omega arith) (omega arith) (omega arith) c.mend_held-done.ensures refl (sym c.went_on.ensures ∙ c.if-went_on.false) c.if-ended.false c.keep-kept.ensures)
