-- `network::packet::total_size`: by its kind. Assumes nothing.
use borrow.Author.Tests.{eq-eqb, ne_eqb}
use Rattle.network.specs.Packet.{total_size}
use Rattle.network.proofs.packet.total_size.Goals as goal

pub returns-then-kind-eq9 : goal.returns-then-kind-eq9
unfolding total_size
returns-then-kind-eq9 c = simp (eq-eqb _ _ c.if-kind-eq9.true)

pub returns-else-kind-eq9 : goal.returns-else-kind-eq9
unfolding total_size
returns-else-kind-eq9 c = simp (ne_eqb _ _ c.if-kind-eq9.false)
