-- `abi::dataset::prop_row`: its own numbers, enable by its case, and behind them its form. Assumes nothing.
use Rattle.std.proofs.Common.{length, ap, ◌∙◌, rules}
use Rattle.wire.specs.Property.{says_form}
use Rattle.abi.proofs.laws.Answers.{spread, form-long}
use Rattle.abi.proofs.dataset.prop_row.Statement.{statement}
use Rattle.abi.proofs.dataset.prop_row.Tie as tie

returns : tie.Need-returns
returns c =
    let f = c.form_row-f in
    let e = c.enable_number-e in
    rw (e.ensures, spread 7 f.result (ap length f.ensures ∙ form-long (says_form c.args.x.form)), f.ensures)

pub prop_row_spec : {M : Type 1} → statement M
prop_row_spec =
    tie.close
    (tie.spec
    (λ c κs. search rules)
    (λ c. search rules)
    (λ c. search rules)
    (λ c. search rules)
    (λ c. search rules)
    (λ c. search rules)
    (λ c. search rules)
    (λ c. search rules)
    (λ c. search rules)
    (λ c. search rules)
    (λ c. search rules)
    (λ c. search rules)
    returns)
