-- `abi::transaction::response_numbers`: by the code. Assumes nothing.
use Rattle.std.proofs.Common.{rules, eq-eqb, ne_eqb}
use Rattle.abi.proofs.transaction.response_numbers.Statement.{statement}
use Rattle.abi.proofs.transaction.response_numbers.Tie as tie

returns : tie.Need-returns-then-x-eq8193
returns c = simp (eq-eqb _ _ c.if-x-eq8193.true)

returns-2 : tie.Need-returns
returns-2 c = simp (ne_eqb _ _ c.if-x-eq8193.false)

pub response_numbers_spec : {M : Type 1} → statement M
response_numbers_spec = tie.close (tie.spec returns (λ c. search rules) returns-2)
