-- `network::see::look_packet`: what the packet tells. Assumes nothing.
use Rattle.network.specs.Translated.{look_packet}
use Rattle.network.proofs.see.look_packet.Goals as goal

pub returns : goal.returns
unfolding look_packet
returns c = rw (c.next_packet.ensures, c.piece_size.ensures) at c.note.ensures
