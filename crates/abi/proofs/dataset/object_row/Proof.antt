-- `abi::dataset::object_row`: every field fits in 64 bits. Past the ninth the search has to be told where it is known. Assumes nothing.
use Rattle.std.proofs.Common.{refl, arith, rules}
use Rattle.abi.proofs.dataset.object_row.Statement.{statement}
use Rattle.abi.proofs.dataset.object_row.Tie as tie

pub object_row_spec : {M : Type 1} → statement M
object_row_spec =
    tie.close
    (tie.spec
    (λ c. search rules)
    (λ c. search rules)
    (λ c. search rules)
    (λ c. search rules)
    (λ c. search rules)
    (λ c. search rules)
    (λ c. search rules)
    (λ c. search rules)
    (λ c. search rules)
    (λ c. omega (arith, c.struct_known-10-1.given.1.1.1.1.1.1.1.1.1.0))
    (λ c. omega (arith, c.struct_known-11-1.given.1.1.1.1.1.1.1.1.1.1.0))
    (λ c. omega (arith, c.struct_known-12-1.given.1.1.1.1.1.1.1.1.1.1.1.0))
    (λ c. omega (arith, c.struct_known-13-1.given.1.1.1.1.1.1.1.1.1.1.1.1.0))
    (λ c. omega (arith, c.struct_known-14-1.given.1.1.1.1.1.1.1.1.1.1.1.1.1.0))
    (λ c. omega (arith, c.struct_known-15-1.given.1.1.1.1.1.1.1.1.1.1.1.1.1.1.0))
    (λ c. refl))
