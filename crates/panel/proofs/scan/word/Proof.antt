-- `panel::scan::word`: each width by itself; there is no other. Assumes nothing.
use Rattle.std.proofs.Common.{sym, ◌∙◌, arith, rules}
use Rattle.panel.proofs.Scanning.{one_word, eight}
use Rattle.panel.proofs.scan.word.Statement.{statement}
use Rattle.panel.proofs.scan.word.Tie as tie

returns : tie.Need-returns-then-w-eq1
returns c = let a = c.args in rw c.if-w-eq1.true (c.byte.ensures.0 ∙ sym (one_word a.s.now a.at (omega (arith, c.requires.1, c.if-w-eq1.true))))

eight-at-requires : tie.Need-eight_at-requires
eight-at-requires c κs = omega (arith, c.requires.1, eight c.requires.0 c.if-w-eq1.false c.if-w-eq2.false c.if-w-eq4.false)

returns-4 : tie.Need-returns
returns-4 c = rw (eight c.requires.0 c.if-w-eq1.false c.if-w-eq2.false c.if-w-eq4.false) c.eight_at.ensures

pub word_spec : {M : Type 1} → statement M
word_spec =
    tie.close
    (tie.spec
    (λ c. search rules)
    (λ c κs. search rules)
    returns
    (λ c κs. omega (arith, c.requires.1, c.if-w-eq2.true))
    (λ c. rw c.if-w-eq2.true c.two_at.ensures.0)
    (λ c κs. omega (arith, c.requires.1, c.if-w-eq4.true))
    (λ c. rw c.if-w-eq4.true c.four_at.ensures.0)
    eight-at-requires
    returns-4)
