-- `wire::encode::wide_word`: a high surrogate and the unit after it, or a unit by itself. Assumes nothing.
use borrow.Author.Rules.{rules}
use mathlib.Core.Path.{◌∙◌, ap}
use Rattle.layout.specs.Bytes.{number}
use Rattle.wire.specs.Utf8.{encoded}
use Rattle.wire.proofs.Filled.{one_three, one_pair}
use Rattle.wire.proofs.encode.wide_word.Statement.{statement}
use Rattle.wire.proofs.encode.wide_word.Tie as tie

pair : tie.Need-returns-then-u-eq54
pair c =
    let k = c in
    let v = c.unit-v in
    one_pair k.args.s.now k.args.at k.args.u k.requires.1.0 v.result c.four_bytes.result v.ensures.0 c.if-u-eq54.true (c.four_bytes.ensures ∙ ap (λ n. number (encoded n)) c.pair_point.ensures.0)

three : tie.Need-returns
three c =
    let k = c in
    let h = k.requires.1 in
    one_three k.args.s.now k.args.at k.args.u h.0 c.three_bytes.result h.1 h.2 c.if-u-eq54.false c.three_bytes.ensures

pub wide_word_spec : {M : Type 1} → statement M
wide_word_spec =
    tie.close
    (tie.spec
    (λ c. search rules)
    (λ c κs. search rules)
    (λ c κs. search rules)
    (λ c κs. search rules)
    (λ c. search rules)
    pair
    (λ c κs. search rules)
    (λ c. search rules)
    three)
