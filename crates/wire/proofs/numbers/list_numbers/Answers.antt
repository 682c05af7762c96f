-- `wire::numbers::list_numbers`: 12, the refusal of the first number that is cut, 9; or all words. Assumes nothing.
use mathlib.Core.Path.{sym, ap, ◌∙◌}
use Rattle.std.proofs.lemmas.Result.{err_from_is_err_and}
use native.Mathlib.Omega.{arith}
use Rattle.layout.specs.Written.{said_of, no}
use Rattle.layout.proofs.laws.Writing.{refusal, no_room, done}
use Rattle.wire.proofs.NumberWords.{numbers_none, numbers_other, numbers_cut, numbers_said}
use Rattle.wire.proofs.numbers.list_numbers.Goals as goal

pub returns-then-code-eq0 : goal.returns-then-code-eq0
unfolding said_of
returns-then-code-eq0 c = let a = c.args in refusal (ap said_of (numbers_none a.code a.n a.s.now a.at c.if-code-eq0.true) ∙ ap no (sym c.plain.ensures))

pub returns-then-code-gt8 : goal.returns-then-code-gt8
unfolding said_of
returns-then-code-gt8 c =
    let a = c.args in
    refusal (ap said_of (numbers_other a.code a.n a.s.now a.at c.if-code-eq0.false c.if-code-gt8.true) ∙ ap no (sym c.plain-then-code-gt8.ensures))

pub returns-in_err-past_values : goal.returns-in_err-past_values
returns-in_err-past_values c =
    let a = c.args in
    let p = err_from_is_err_and c.from_residual.result c.from_residual.ensures.1 in
    rw (p.1, p.2) (refusal (numbers_cut a.code a.n a.s.now a.at c.if-code-eq0.false c.if-code-gt8.false _ c.in_err-past_values.ensures))

pub returns-then-out-n : goal.returns-then-out-n
returns-then-out-n c =
    let a = c.args in
    let f = numbers_said a.code a.n a.s.now a.at c.if-code-eq0.false c.if-code-gt8.false _ c.in_ok-past_values.ensures in
    no_room f.0 (omega (arith, f.2, c.if-out-n.true)) c.plain-then-out-n.ensures

pub put_numbers-requires : goal.put_numbers-requires
put_numbers-requires c =
    let a = c.args in
    let f = numbers_said a.code a.n a.s.now a.at c.if-code-eq0.false c.if-code-gt8.false _ c.in_ok-past_values.ensures in
    (omega (arith, c.if-code-eq0.false), c.if-code-gt8.false, f.1, c.if-out-n.false)

pub returns : goal.returns
returns c =
    let a = c.args in
    let f = numbers_said a.code a.n a.s.now a.at c.if-code-eq0.false c.if-code-gt8.false _ c.in_ok-past_values.ensures in
    done f.0 (omega (arith, f.2, c.if-out-n.false)) c.put_numbers.ensures
