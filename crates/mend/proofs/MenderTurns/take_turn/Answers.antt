-- `mend::Mender::take_turn`: where the turn says to read, what is held stands in the window; its bytes stand in the output, its lines in the report.
use Rattle.mending.specs.Turn.{state}
use Rattle.mending.proofs.laws.Obeying.{text_within, lines_within, held_within}
use Rattle.mend.proofs.MenderTurns.take_turn.Goals as goal

pub show-requires : goal.show-requires
show-requires c = text_within c.take_turn-turn.ensures

pub tell-requires : goal.tell-requires
tell-requires c = lines_within c.take_turn-turn.ensures

pub read_on-requires : goal.read_on-requires
read_on-requires c = held_within c.args.self.now.window.now c.args.s.hold (state c.args.s.stretches c.args.s.tally) c.take_turn-turn.ensures c.in-Read.is
