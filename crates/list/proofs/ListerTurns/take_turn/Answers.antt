-- `list::Lister::take_turn`: where the turn says to read, what is held stands in the window.
use Rattle.listing.proofs.laws.Turning.{held_within}
use Rattle.list.proofs.ListerTurns.take_turn.Goals as goal

pub read_on-requires : goal.read_on-requires
read_on-requires c = held_within c.args.self.now.window.now c.args.s.hold _ c.take_turn-turn.ensures c.in-Read.is
