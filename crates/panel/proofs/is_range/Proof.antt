-- `panel::is_range`: each form by itself. Assumes nothing.
use Rattle.std.proofs.Common.{sym, ap, rules}
use Rattle.wire.specs.Property.{says_form, form_in}
use Rattle.panel.specs.Panel.{is_range}
use Rattle.panel.proofs.is_range.Statement.{statement}
use Rattle.panel.proofs.is_range.Tie as tie

pub is_range_spec : {M : Type 1} → statement M
is_range_spec =
    tie.close
    (tie.spec
    (λ c. search rules)
    (λ c. search rules)
    (λ c. search rules)
    (λ c t s. ap (λ f. is_range (form_in t s (says_form f))) (sym c.in-Range.is))
    (λ c t s. ap (λ f. is_range (form_in t s (says_form f))) (sym c.in-List.is))
    (λ c t s. ap (λ f. is_range (form_in t s (says_form f))) (sym c.in-Absent.is)))
