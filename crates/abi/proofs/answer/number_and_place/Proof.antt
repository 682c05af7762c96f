-- `abi::answer::number_and_place`: the place is told no farther, so the word has room. Assumes nothing.
use Rattle.std.proofs.Common.{ℕ, ◌+◌, ◌*◌, ap, arith, rules}
use Rattle.abi.proofs.Minus.{far}
use Rattle.abi.proofs.answer.number_and_place.Statement.{statement}
use Rattle.abi.proofs.answer.number_and_place.Tie as tie

pub number_and_place_spec : {M : Type 1} → statement M
number_and_place_spec =
    tie.close
    (tie.spec
    (λ c κs. search rules)
    (λ c. record { fits = omega (arith, far c.args.f.at, c.least.ensures) })
    (λ c. search rules)
    (λ c. record { fits = omega (arith, far c.args.f.at, c.least.ensures) })
    (λ c. ap (λ (n : ℕ). 256 * n + c.args.f.no) c.least.ensures))
