-- What is still to be seen at a place is what is seen in all.
use Rattle.std.proofs.Common.{◌-◌, length}
use Rattle.wire.specs.Container.{container_at}
use Rattle.network.specs.Translated.{look_container}
use Rattle.network.proofs.ItemsLaws.{Seeing}
use Rattle.network.proofs.see.see_containers.Given as goal

abbrev pub invariant-loop-at : goal.invariant-loop-at
invariant-loop-at l = Seeing container_at look_container l.s l.at l.t

abbrev pub decreases-loop-at : goal.decreases-loop-at
decreases-loop-at l = length l.s - l.at
