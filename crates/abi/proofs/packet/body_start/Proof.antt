-- `abi::packet::body_start`: by the kind. Assumes nothing.
use Rattle.std.proofs.Common.{eq-eqb, ne_eqb}
use Rattle.abi.proofs.packet.body_start.Statement.{statement}
use Rattle.abi.proofs.packet.body_start.Tie as tie

pub body_start_spec : {M : Type 1} → statement M
body_start_spec = tie.close (tie.spec (λ c. simp (eq-eqb _ _ c.if-x-eq9.true)) (λ c. simp (ne_eqb _ _ c.if-x-eq9.false)))
