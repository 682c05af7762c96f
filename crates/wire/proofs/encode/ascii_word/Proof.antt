-- `wire::encode::ascii_word`: what the others have together is below 0x80, and so is each; else the first alone. Assumes nothing.
use native.Mathlib.Omega.{arith}
use borrow.Author.Rules.{rules}
use Rattle.wire.proofs.Filled.{one_ascii, four_ascii}
use Rattle.wire.proofs.encode.ascii_word.Statement.{statement}
use Rattle.wire.proofs.encode.ascii_word.Tie as tie

four : tie.Need-returns-then-either-lt128
four c =
    let k = c in
    let v = c.unit-v in
    let w = c.unit-w in
    let z = c.unit-z in
    let some = c.either.ensures in
    let all = c.either-2.ensures in
    four_ascii k.args.s.now k.args.at k.args.u k.requires.1.0 v.result w.result z.result v.ensures.0 w.ensures.0 z.ensures.0 k.requires.1.1
    (omega (arith, some.0, all.0)) (omega (arith, some.1, all.0)) (omega (arith, all.1))

one : tie.Need-returns
one c = let k = c in one_ascii k.args.s.now k.args.at k.args.u k.requires.1.0 k.requires.1.1

pub ascii_word_spec : {M : Type 1} → statement M
ascii_word_spec =
    tie.close
    (tie.spec
    (λ c. search rules)
    (λ c κs. search rules)
    (λ c. search rules)
    (λ c κs. search rules)
    (λ c. search rules)
    (λ c κs. search rules)
    (λ c κs. search rules)
    (λ c κs. search rules)
    (λ c. search rules)
    (λ c. search rules)
    (λ c. search rules)
    (λ c. search rules)
    (λ c. search rules)
    (λ c. search rules)
    (λ c. search rules)
    four
    (λ c. search rules)
    one)
