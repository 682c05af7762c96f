-- `panel::is_nothing`: each case by itself. Assumes nothing.
use Rattle.std.proofs.Common.{sym, ap, rules}
use Rattle.wire.specs.Says.{located}
use Rattle.panel.specs.Words.{is_nothing}
use Rattle.panel.proofs.is_nothing.Statement.{statement}
use Rattle.panel.proofs.is_nothing.Tie as tie

pub is_nothing_spec : {M : Type 1} → statement M
is_nothing_spec =
    tie.close
    (tie.spec
    (λ c. search rules)
    (λ c. search rules)
    (λ c. search rules)
    (λ c. search rules)
    (λ c. search rules)
    (λ c. search rules)
    (λ c. ap (λ v. is_nothing (located v)) (sym c.in-Int.is))
    (λ c. ap (λ v. is_nothing (located v)) (sym c.in-Nat.is))
    (λ c. ap (λ v. is_nothing (located v)) (sym c.in-Wide.is))
    (λ c. ap (λ v. is_nothing (located v)) (sym c.in-Items.is))
    (λ c. ap (λ v. is_nothing (located v)) (sym c.in-Text.is))
    (λ c. ap (λ v. is_nothing (located v)) (sym c.in-Undef.is)))
