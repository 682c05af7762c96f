-- `copying::take_turn`: its tests are those of the definition, in their order; and both outputs have room. Assumes nothing.
use Rattle.std.proofs.Common.{◌≡◌, ◌≤◌, ℕ, List, length, sym, ap, ◌∙◌, arith}
use Rattle.layout.proofs.laws.Numbers.{zero_one}
use Rattle.turns.specs.Held.{rest}
use Rattle.turns.proofs.laws.Running.{rest_most}
use Rattle.recording.specs.Copied.{says_copied}
use Rattle.recording.proofs.laws.Fronts.{fronts}
use Rattle.copying.specs.declared.Outcome.{Outcome}
use Rattle.copying.specs.Turn.{size}
use Rattle.copying.proofs.laws.Turning.{used_fits, turn_goes, turn_asks, turn_stops}
use Rattle.copying.proofs.take_turn.Goals as goal

-- what is held has room
fits : (w out : List ℕ) (from held : ℕ) → length w ≡ size → length out ≡ size → length (rest w from held) ≤ length out
fits w out from held h k = omega (arith, rest_most w from held, h, k)

pub returns-in_default : goal.returns-in_default
returns-in_default c =
    let f = fronts (fits c.args.window.now c.args.out.now c.args.s.hold.from c.args.s.hold.held (omega arith) (omega arith)) c.copy_held-front.ensures in
    let e = sym (ap says_copied c.in_default.is) ∙ f.answer in
    zero_one (cc)

pub overflow_add-from : goal.overflow_add-from
overflow_add-from c =
    let a = c.args in
    let wide : length a.window.now ≡ size = omega arith in
    omega (arith, used_fits a.window.now a.s.hold a.s.tally (fronts (fits a.window.now a.out.now a.s.hold.from a.s.hold.held wide (omega arith)) c.copy_held-front.ensures) c.in-Ok.is, wide)

pub returns-then-used-gt0 : goal.returns-then-used-gt0
returns-then-used-gt0 c =
    let a = c.args in
    rw (c.answer-then-used-gt0.ensures, c.standing-on.ensures, c.past-tally.ensures)
    (turn_goes a.window.now a.s.hold a.s.tally (fronts (fits a.window.now a.out.now a.s.hold.from a.s.hold.held (omega arith) (omega arith)) c.copy_held-front.ensures) c.in-Ok.is c.if-used-gt0.true)

pub returns-then-seen : goal.returns-then-seen
returns-then-seen c =
    let a = c.args in
    let waiting = sym (ap (λ (o : Outcome). o.waits) c.look_held-seen.ensures) ∙ c.if-seen.true in
    rw (c.answer-then-seen.ensures, c.standing.ensures, c.past-tally.ensures)
    (turn_asks a.window.now a.s.hold a.s.tally (fronts (fits a.window.now a.out.now a.s.hold.from a.s.hold.held (omega arith) (omega arith)) c.copy_held-front.ensures) c.in-Ok.is c.if-used-gt0.false waiting
    c.keep-kept.ensures)

pub returns : goal.returns
returns c =
    let a = c.args in
    let seen = c.look_held-seen.ensures in
    let p = c.put_line-told.ensures in
    let fate-so = ap (λ (o : Outcome). o.fate) seen in
    let line = rw (fate-so, c.past-tally.ensures) at p.0 in
    rw (c.answer-2.ensures, c.standing-over.ensures, c.past-tally.ensures)
    (turn_stops a.window.now a.s.hold a.s.tally (fronts (fits a.window.now a.out.now a.s.hold.from a.s.hold.held (omega arith) (omega arith)) c.copy_held-front.ensures) c.in-Ok.is c.if-used-gt0.false
    (sym (ap (λ (o : Outcome). o.waits) seen) ∙ c.if-seen.false) line (omega (arith, line.place, p.1)))
