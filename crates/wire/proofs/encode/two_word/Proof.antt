-- `wire::encode::two_word`: both have two bytes; else the first alone. Assumes nothing.
use borrow.Author.Rules.{rules}
use Rattle.wire.proofs.Filled.{one_two, two_twos}
use Rattle.wire.proofs.encode.two_word.Statement.{statement}
use Rattle.wire.proofs.encode.two_word.Tie as tie

both : tie.Need-returns-then-v-lt2048
both c =
    let k = c in
    let v = c.unit-v in
    let h = k.requires.1 in
    two_twos k.args.s.now k.args.at k.args.u h.0 v.result c.two_bytes.result c.two_bytes-then-v-lt2048.result v.ensures.0 h.1 h.2
    c.if-v-ge128.true c.if-v-lt2048.true c.two_bytes.ensures.0 c.two_bytes-then-v-lt2048.ensures.0

one : tie.Need-returns
one c =
    let k = c in
    let h = k.requires.1 in
    one_two k.args.s.now k.args.at k.args.u h.0 c.two_bytes-2.result h.1 h.2 c.two_bytes-2.ensures.0

pub two_word_spec : {M : Type 1} → statement M
two_word_spec =
    tie.close
    (tie.spec
    (λ c. search rules)
    (λ c κs. search rules)
    (λ c κs. search rules)
    (λ c κs. search rules)
    (λ c. search rules)
    (λ c. search rules)
    (λ c. search rules)
    both
    (λ c κs. search rules)
    (λ c. search rules)
    one)
