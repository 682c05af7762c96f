-- `network::see::look_container`: what the container tells. Assumes nothing.
use Rattle.network.specs.Translated.{look_container}
use Rattle.network.proofs.see.look_container.Goals as goal

pub returns : goal.returns
unfolding look_container
returns c = rw c.next_container.ensures at c.note.ensures
