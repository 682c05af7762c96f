-- What is still to be seen at a place is what is seen in all.
use Rattle.std.proofs.Common.{◌-◌, length}
use Rattle.network.specs.Packet.{packet_at}
use Rattle.network.specs.Translated.{look_packet}
use Rattle.network.proofs.ItemsLaws.{Seeing}
use Rattle.network.proofs.see.see_packets.Given as goal

abbrev pub invariant-loop-at : goal.invariant-loop-at
invariant-loop-at l = Seeing packet_at look_packet l.s l.at l.t

abbrev pub decreases-loop-at : goal.decreases-loop-at
decreases-loop-at l = length l.s - l.at
