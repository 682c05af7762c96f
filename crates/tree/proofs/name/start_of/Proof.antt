-- `tree::name::start_of`: the first name starts at 0, any other where the one before it ends. Assumes nothing.
use Prim.Native.Nat.{◌-◌}
use native.Mathlib.Omega.{arith}
use borrow.Author.Rules.{rules}
use Rattle.tree.proofs.Routes.{start_behind}
use Rattle.tree.proofs.name.start_of.Statement.{statement}
use Rattle.tree.proofs.name.start_of.Tie as tie

pub start_of_spec : {M : Type 1} → statement M
start_of_spec =
    tie.close
    (tie.spec
    (λ c. search rules)
    (λ c. search rules)
    (λ c. search rules)
    (λ c. omega (arith, c.shared_slice_known-1.given (c.args.k - 1)))
    (λ c. search rules)
    (λ c. start_behind c.args.ends.now c.args.k c.if-k-eq0.false))
