-- `listing::turn::lines_turn`: its tests are those of the definition, in their order. Assumes nothing.
use Rattle.std.proofs.Common.{◌≡◌, length, arith, rules}
use Rattle.listing.specs.Turn.{size}
use Rattle.listing.proofs.laws.Turning.{turn_closes, turn_goes, turn_ends, turn_asks, used_most}
use Rattle.listing.proofs.turn.lines_turn.Statement.{statement}
use Rattle.listing.proofs.turn.lines_turn.Tie as tie

-- the output is as long as the definition's room
long : (c : tie.After-list_held-done) → length c.args.out.now ≡ size
long c = omega arith

wide : (c : tie.After-list_held-done) → length c.args.window.now ≡ size
wide c = omega arith

add-from : tie.Need-overflow_add-from
add-from c =
    let k = c in
    let a = k.args in
    omega (arith, used_most a.window.now a.hold a.tally (long c.before.before) k.list_held-done.ensures, wide c.before.before)

returns : tie.Need-returns-then-done
returns c =
    let k = c in
    let a = k.args in
    rw (c.answer.ensures, c.standing.ensures) (turn_closes a.window.now a.hold a.tally (long c.before.before.before.before.before.before) k.list_held-done.ensures c.if-done.true)

returns-2 : tie.Need-returns-then-done-gt0
returns-2 c =
    let k = c in
    let a = k.args in
    rw (c.answer-then-done-gt0.ensures, c.standing-then-done-gt0.ensures) (turn_goes a.window.now a.hold a.tally (long c.before.before.before.before.before.before.before.before) k.list_held-done.ensures c.if-done.false c.if-done-gt0.true)

returns-3 : tie.Need-returns-then-ended
returns-3 c =
    let k = c in
    let a = k.args in
    rw (c.answer-then-ended.ensures, c.standing-then-ended.ensures)
    (turn_ends a.window.now a.hold a.tally (long c.before.before.before.before.before.before.before.before.before) k.list_held-done.ensures c.if-done.false c.if-done-gt0.false c.if-ended.true)

returns-4 : tie.Need-returns
returns-4 c =
    let k = c in
    let a = k.args in
    rw (c.answer-2.ensures, c.standing-2.ensures)
    (turn_asks a.window.now a.hold a.tally (long c.before.before.before.before.before.before.before.before.before.before.before) k.list_held-done.ensures c.if-done.false c.if-done-gt0.false c.if-ended.false c.keep-kept.ensures)

pub lines_turn_spec : {M : Type 1} → statement M
lines_turn_spec =
    tie.close
    (tie.spec
    (λ c κs. search rules)
    add-from
    (λ c κs. search rules)
    (λ c κs. search rules)
    returns
    (λ c κs. search rules)
    (λ c κs. search rules)
    returns-2
    (λ c κs. search rules)
    (λ c κs. search rules)
    returns-3
    (λ c κs. search rules)
    (λ c κs. search rules)
    (λ c κs. search rules)
    returns-4)
