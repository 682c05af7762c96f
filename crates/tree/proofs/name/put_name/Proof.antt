-- `tree::name::put_name`: the part that is lent is the name, and it has room. Assumes nothing.
use native.Mathlib.Omega.{arith}
use borrow.Author.Rules.{rules}
use Rattle.layout.proofs.laws.Writing.{roomy}
use Rattle.tree.specs.Path.{name_of}
use Rattle.tree.proofs.Routes.{name_is}
use Rattle.tree.proofs.name.put_name.Statement.{statement}
use Rattle.tree.proofs.name.put_name.Tie as tie

returns : tie.Need-returns
returns c =
    let u = c in
    let k = u in
    let a = k.args in
    roomy (name_of a.ends.now a.names.now a.k)
    (rw (name_is a.ends.now a.names.now a.k _ u.start_of-from.ensures) at u.put_utf8.ensures)
    k.requires.1.1

pub put_name_spec : {M : Type 1} → statement M
put_name_spec =
    tie.close
    (tie.spec
    (λ c κs. search rules)
    (λ c. search rules)
    (λ c. search rules)
    (λ c. omega (arith, c.shared_slice_known-3-1.given c.args.k))
    (λ c. let k = c in omega (arith, k.requires.0.rises k.args.k k.requires.1.0))
    (λ c. let k = c in omega (arith, k.requires.0.rises k.args.k k.requires.1.0))
    (λ c. let k = c in omega (arith, k.requires.0.within k.args.k k.requires.1.0))
    (λ c κs. search rules)
    (λ c. search rules)
    returns)
