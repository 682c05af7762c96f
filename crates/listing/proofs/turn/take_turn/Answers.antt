-- `listing::turn::take_turn`: by the stage. Assumes nothing.
use Rattle.std.proofs.Common.{refl, add-zero, arith, rules}
use Rattle.turns.specs.Turn.{turn_of}
use Rattle.listing.specs.Lines.{heading}
use Rattle.listing.specs.Turn.{lines_of, step_of}
use Rattle.turns.proofs.laws.Fronting.{put_fronted}
use Rattle.listing.proofs.turn.take_turn.Goals as goal

pub returns-in-Heading : goal.returns-in-Heading
unfolding turn_of step_of heading
returns-in-Heading c =
    let p = put_fronted (omega (arith, c.put_heading-arg-1)) c.put_heading-n.ensures in
    rw (c.answer.ensures, c.standing.ensures, c.in-Heading.is, add-zero) (record { answers = rw p.0; leaves = p.1; keeps = refl })

pub returns-in-Lines : goal.returns-in-Lines
unfolding turn_of step_of lines_of
returns-in-Lines c = rw c.in-Lines.is c.lines_turn.ensures

pub returns-in-Ending : goal.returns-in-Ending
unfolding turn_of step_of
returns-in-Ending c =
    let e = c.put_ending-n.ensures in
    let p = put_fronted (omega (arith, e.1, e.0.place, c.put_ending-arg-1)) e.0 in
    rw (c.answer-in-Ending.ensures, c.standing-in-Ending.ensures, c.in-Ending.is) (record { answers = rw p.0; leaves = p.1; keeps = refl })
