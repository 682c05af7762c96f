-- `listing::decimal::put_one`: one store. Assumes nothing.
use Rattle.listing.proofs.Spelling.{one_put}
use Rattle.std.proofs.Common.{rules}
use Rattle.listing.proofs.decimal.put_one.Statement.{statement}
use Rattle.listing.proofs.decimal.put_one.Tie as tie

pub put_one_spec : {M : Type 1} → statement M
put_one_spec =
    tie.close
    (tie.spec
    (λ c. search rules)
    (λ c. search rules)
    (λ c. search rules)
    (λ c. search rules)
    (λ c. search rules)
    (λ c. one_put c.args.out.now c.args.at c.args.n))
