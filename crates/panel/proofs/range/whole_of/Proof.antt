-- `panel::range::whole_of`: each case by itself. Assumes nothing.
use Rattle.std.proofs.Common.{sym, ap, w64, rules}
use mir.ValLaws.{to_z-of_z}
use Rattle.wire.specs.Says.{located}
use Rattle.panel.specs.Words.{whole_of}
use Rattle.panel.proofs.Spans.{below_zero}
use Rattle.panel.proofs.range.whole_of.Statement.{statement}
use Rattle.panel.proofs.range.whole_of.Tie as tie

returns : tie.Need-returns-in-Int
returns c =
    let z = c.in-Int.z in
    let same = to_z-of_z w64 z (record { sfits = c.in-Int.known_told-1-own.given.0.1 }) in
    rw (c.word_of.ensures, same, below_zero z) (ap (λ v. whole_of (located v)) (sym c.in-Int.is))

returns-2 : tie.Need-returns-in-Nat
returns-2 c = ap (λ v. whole_of (located v)) (sym c.in-Nat.is)

pub whole_of_spec : {M : Type 1} → statement M
whole_of_spec =
    tie.close
    (tie.spec
    (λ c. search rules)
    (λ c κs. search rules)
    (λ c. search rules)
    (λ c. search rules)
    (λ c. search rules)
    (λ c. search rules)
    (λ c. search rules)
    returns
    returns-2
    (λ c. ap (λ v. whole_of (located v)) (sym c.in-Wide.is))
    (λ c. ap (λ v. whole_of (located v)) (sym c.in-Items.is))
    (λ c. ap (λ v. whole_of (located v)) (sym c.in-Text.is))
    (λ c. ap (λ v. whole_of (located v)) (sym c.in-Undef.is)))
