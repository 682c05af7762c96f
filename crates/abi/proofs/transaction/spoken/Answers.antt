-- Each case by itself; five parameters at most are counted.
use Rattle.std.proofs.Common.{◌≡◌, ℕ, ◌+◌, ◌*◌, ◌≤◌, Bool, true, false, leb, refl, ap, arith, lit≤, leb-true}
use Rattle.layout.specs.Answer.{pick}
use Rattle.abi.specs.Answered.{word}
use Rattle.abi.proofs.transaction.spoken.Goals as goal

few : (n : ℕ) → pick (leb n 5) n 5 ≤ 5
few n = go (leb n 5) refl
  where
    go : (b : Bool) → leb n 5 ≡ b → pick b n 5 ≤ 5
    go true e = leb-true n 5 e
    go false e = lit≤ tt

pub overflow_mul-result : goal.overflow_mul-result
overflow_mul-result c = omega (arith, few c.args.params, c.least.ensures)

pub overflow_add-result : goal.overflow_add-result
overflow_add-result c = omega (arith, few c.args.params, c.least.ensures)

pub returns-in-Ok : goal.returns-in-Ok
unfolding word
returns-in-Ok c = (rw c.in-Ok.is, rw c.in-Ok.is (ap (λ n. 12 + 4 * n) c.least.ensures), rw c.in-Ok.is c.told.ensures)

pub returns-in-Err : goal.returns-in-Err
unfolding word
returns-in-Err c = (rw c.in-Err.is, rw c.in-Err.is, rw c.in-Err.is c.told-in-Err.ensures)
