-- `listing::decimal::put_two`: two stores. Assumes nothing.
use Rattle.std.proofs.Common.{arith, length-set, rules}
use Rattle.listing.proofs.Spelling.{two_put}
use Rattle.listing.proofs.decimal.put_two.Statement.{statement}
use Rattle.listing.proofs.decimal.put_two.Tie as tie

pub put_two_spec : {M : Type 1} → statement M
put_two_spec =
    tie.close
    (tie.spec
    (λ c. search rules)
    (λ c. search rules)
    (λ c. search rules)
    (λ c. search rules)
    (λ c. search rules)
    (λ c. search rules)
    (λ c. search rules)
    (λ c. search rules)
    (λ c. simp length-set (omega arith))
    (λ c. search rules)
    (λ c. simp length-set)
    (λ c. two_put c.args.out.now c.args.at c.args.n))
