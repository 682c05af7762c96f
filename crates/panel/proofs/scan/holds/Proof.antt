-- `panel::scan::holds`: each width by itself; there is no other. Assumes nothing.
use Rattle.std.proofs.Common.{◌≡◌, ℕ, List, length, take, drop, ap, ◌∙◌, arith, take_all}
use Rattle.layout.specs.Bytes.{number, cells}
use Rattle.panel.specs.Words.{is_in, one_byte, two_bytes, four_bytes, eight_bytes}
use Rattle.panel.proofs.Scanning.{eight}
use Rattle.panel.proofs.scan.holds.Statement.{statement}
use Rattle.panel.proofs.scan.holds.Tie as tie

-- the chosen bytes are all of the word
whole : (w : ℕ) (u : List ℕ) → length u ≡ w → take w (drop 0 u) ≡ u
whole w u e = take_all w u (omega (arith, e))

has-word-requires : tie.Need-has_word-requires
has-word-requires c κs =
    let e = c.if-w-eq1.true in
    (one_byte, rw e at c.requires.1)

returns : tie.Need-returns-then-w-eq1
returns c =
    let a = c.args in
    let e = c.if-w-eq1.true in
    rw e (c.has_word.ensures ∙ ap (λ v. is_in v (cells 1 a.n (drop a.at a.s.now))) (c.word-x.ensures ∙ ap number (whole a.w a.chosen.now c.requires.2)))

has-word-requires-2 : tie.Need-has_word-requires-then-w-eq2
has-word-requires-2 c κs =
    let e = c.if-w-eq2.true in
    (two_bytes, rw e at c.requires.1)

returns-2 : tie.Need-returns-then-w-eq2
returns-2 c =
    let a = c.args in
    let e = c.if-w-eq2.true in
    rw e (c.has_word-then-w-eq2.ensures ∙ ap (λ v. is_in v (cells 2 a.n (drop a.at a.s.now))) (c.word-x.ensures ∙ ap number (whole a.w a.chosen.now c.requires.2)))

has-word-requires-3 : tie.Need-has_word-requires-then-w-eq4
has-word-requires-3 c κs =
    let e = c.if-w-eq4.true in
    (four_bytes, rw e at c.requires.1)

returns-3 : tie.Need-returns-then-w-eq4
returns-3 c =
    let a = c.args in
    let e = c.if-w-eq4.true in
    rw e (c.has_word-then-w-eq4.ensures ∙ ap (λ v. is_in v (cells 4 a.n (drop a.at a.s.now))) (c.word-x.ensures ∙ ap number (whole a.w a.chosen.now c.requires.2)))

has-word-requires-4 : tie.Need-has_word-requires-2
has-word-requires-4 c κs =
    let e = eight c.requires.0 c.if-w-eq1.false c.if-w-eq2.false c.if-w-eq4.false in
    (eight_bytes, rw e at c.requires.1)

returns-4 : tie.Need-returns
returns-4 c =
    let a = c.args in
    let e = eight c.requires.0 c.if-w-eq1.false c.if-w-eq2.false c.if-w-eq4.false in
    rw e (c.has_word-2.ensures ∙ ap (λ v. is_in v (cells 8 a.n (drop a.at a.s.now))) (c.word-x.ensures ∙ ap number (whole a.w a.chosen.now c.requires.2)))

pub holds_spec : {M : Type 1} → statement M
holds_spec =
    tie.close
    (tie.spec
    (λ c κs. (c.requires.0, omega (arith, c.requires.2)))
    has-word-requires
    returns
    has-word-requires-2
    returns-2
    has-word-requires-3
    returns-3
    has-word-requires-4
    returns-4)
