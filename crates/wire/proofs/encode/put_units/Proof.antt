-- `wire::encode::put_units`: below 0x80 each unit is its own byte; else word by word. Assumes nothing.
use native.Mathlib.Omega.{arith}
use borrow.Author.Rules.{rules}
use lib.ListN.{drop}
use Rattle.wire.proofs.Small.{ascii_long}
use Rattle.wire.proofs.encode.put_units.Statement.{statement}
use Rattle.wire.proofs.encode.put_units.Tie as tie

put-ascii-requires : tie.Need-put_ascii-requires
put-ascii-requires c κs =
    let k = c in
    let a = c.is_ascii.ensures c.if-is_ascii.true in
    (k.requires.0, (a, omega (arith, ascii_long k.args.count (drop k.args.start k.args.s.now) a, k.requires.1)))

pub put_units_spec : {M : Type 1} → statement M
put_units_spec =
    tie.close
    (tie.spec
    (λ c κs. search rules)
    (λ c. search rules)
    (λ c. search rules)
    (λ c κs. search rules)
    put-ascii-requires
    (λ c. search rules)
    (λ c. search rules)
    (λ c κs. search rules)
    (λ c. search rules)
    (λ c. search rules))
