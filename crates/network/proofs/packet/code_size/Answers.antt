-- `network::packet::code_size`: by its kind. Assumes nothing.
use borrow.Author.Tests.{eq-eqb, ne_eqb}
use Rattle.network.specs.Packet.{code_size}
use Rattle.network.proofs.packet.code_size.Goals as goal

pub returns-then-kind-eq6 : goal.returns-then-kind-eq6
unfolding code_size
returns-then-kind-eq6 c = simp (eq-eqb _ _ c.if-kind-eq6.true)

pub returns-then-kind-eq7 : goal.returns-then-kind-eq7
unfolding code_size
returns-then-kind-eq7 c = simp (ne_eqb _ _ c.if-kind-eq6.false, eq-eqb _ _ c.if-kind-eq7.true)

pub returns-else-kind-eq7 : goal.returns-else-kind-eq7
unfolding code_size
returns-else-kind-eq7 c = simp (ne_eqb _ _ c.if-kind-eq6.false, ne_eqb _ _ c.if-kind-eq7.false)
