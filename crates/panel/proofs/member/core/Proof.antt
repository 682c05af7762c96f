-- `panel::member::core`: by the type, then by the length. The test of the type is cited by what it says, not by its name, so that an edit of it is refused for its meaning.
-- Assumes nothing.
use Rattle.std.proofs.Common.{◌≡◌, ◌-◌, length, arith, rules, le-ltb, lt-ltb, eq-eqb, ne_eqb}
use Rattle.panel.specs.Words.{core_of}
use Rattle.panel.proofs.member.core.Statement.{statement}
use Rattle.panel.proofs.member.core.Tie as tie

returns-2 : tie.Need-returns-then-word-lt3
unfolding core_of
returns-2 c = rw (eq-eqb c.args.code 65535 (omega arith), lt-ltb _ _ c.if-word-lt3.true)

returns-3 : tie.Need-returns
unfolding core_of
returns-3 c =
    let s = c.args.word.now in
    let less : length s - 2 - 1 ≡ length s - 3 = omega arith in
    rw (eq-eqb c.args.code 65535 (omega arith), le-ltb _ _ c.if-word-lt3.false, less)

pub core_spec : {M : Type 1} → statement M
unfolding core_of
core_spec =
    tie.close
    (tie.spec
    (λ c. rw (ne_eqb c.args.code 65535 (λ e. omega (arith, e))))
    (λ c. search rules)
    (λ c. search rules)
    (λ c. search rules)
    returns-2
    (λ c. search rules)
    (λ c. search rules)
    (λ c. search rules)
    (λ c. search rules)
    returns-3)
