-- `network::see::piece_size`: by its kind. Assumes nothing.
use Rattle.network.proofs.see.piece_size.Goals as goal

pub returns : goal.returns
returns c = cc
