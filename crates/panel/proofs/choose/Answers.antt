-- The description, then its type, then the value.
use Rattle.std.proofs.Common.{sym, ap, ◌∙◌}
use Rattle.std.proofs.lemmas.Result.{err_from_is_err_and}
use Rattle.layout.specs.Answer.{means, refused}
use Rattle.wire.specs.Property.{info_from, has_enable}
use Rattle.panel.specs.Panel.{Chosen}
use Rattle.panel.proofs.Weighing.{suited, chosen_weighed, chosen_other, chosen_unread}
use Rattle.panel.proofs.choose.Goals as goal

pub returns-in_err-x : goal.returns-in_err-x
unfolding means
returns-in_err-x c =
    let a = c.args in
    let p = err_from_is_err_and c.from_residual.result c.from_residual.ensures.1 in
    rw (p.1, p.2) (sym (ap (means (λ (c : Chosen). c.property)) (chosen_unread (has_enable a.l) a.description.now a.chosen.now a.code _ (sym c.in_err-x.ensures))))

pub returns-then-not-fitting : goal.returns-then-not-fitting
unfolding means
returns-then-not-fitting c =
    let a = c.args in
    ap refused c.plain.ensures ∙ sym (ap (means (λ (c : Chosen). c.property)) (chosen_other (has_enable a.l) a.description.now a.chosen.now a.code (info_from c.in_ok-x.x) _ (sym c.in_ok-x.ensures) (sym (c.fitting.ensures a.description.now) ∙ c.if-not-fitting.true)))

pub weigh-requires : goal.weigh-requires
weigh-requires c =
    let a = c.args in
    suited (has_enable a.l) a.description.now a.chosen.now a.code (info_from c.in_ok-x.x) _ (sym c.in_ok-x.ensures) (sym (c.fitting.ensures a.description.now) ∙ c.if-not-fitting.false)

pub returns : goal.returns
returns c =
    let a = c.args in
    c.weigh.ensures ∙ chosen_weighed (has_enable a.l) a.description.now a.chosen.now a.code (info_from c.in_ok-x.x) _ (sym c.in_ok-x.ensures) (sym (c.fitting.ensures a.description.now) ∙ c.if-not-fitting.false)
