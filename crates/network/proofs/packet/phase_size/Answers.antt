-- `network::packet::phase_size`: by its kind. Assumes nothing.
use borrow.Author.Tests.{eq-eqb, ne_eqb}
use Rattle.network.specs.Packet.{phase_size}
use Rattle.network.proofs.packet.phase_size.Goals as goal

pub returns-then-kind-eq6 : goal.returns-then-kind-eq6
unfolding phase_size
returns-then-kind-eq6 c = simp (eq-eqb _ _ c.if-kind-eq6.true)

pub returns-else-kind-eq6 : goal.returns-else-kind-eq6
unfolding phase_size
returns-else-kind-eq6 c = simp (ne_eqb _ _ c.if-kind-eq6.false)
