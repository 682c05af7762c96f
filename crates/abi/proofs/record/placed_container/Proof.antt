-- `abi::record::placed_container`: its row, number by number. Assumes nothing.
use Rattle.std.proofs.Common.{rules}
use Rattle.abi.proofs.record.placed_container.Statement.{statement}
use Rattle.abi.proofs.record.placed_container.Tie as tie

pub placed_container_spec : {M : Type 1} → statement M
placed_container_spec =
    tie.close
    (tie.spec
    (λ c κs. search rules)
    (λ c. search rules)
    (λ c. search rules)
    (λ c. search rules)
    (λ c. search rules)
    (λ c. search rules)
    (λ c. rw c.container_row-c.ensures))
