-- `copy::Copier::take_turn`: where the turn says to read, what is held stands in the window; its bytes stand in the output, its line in the report.
use Rattle.copying.proofs.laws.Turning.{text_within, line_within, held_within}
use Rattle.copy.proofs.CopierTurns.take_turn.Goals as goal

pub show-requires : goal.show-requires
show-requires c = text_within c.take_turn-turn.ensures

pub tell-requires : goal.tell-requires
tell-requires c = line_within c.take_turn-turn.ensures

pub read_on-requires : goal.read_on-requires
read_on-requires c = held_within c.args.self.now.window.now c.args.s.hold c.args.s.tally c.take_turn-turn.ensures c.in-Read.is
