-- A step of the list, and the comparison of its core with the chosen value's.
use Rattle.std.proofs.Common.{sym, refl, ◌∙◌}
use Rattle.std.specs.Cmp.Lexicographic.{same_text, other_text}
use Rattle.std.specs.declared.option.Option.TheVariants.{Some, None}
use Rattle.wire.specs.Says.{located}
use Rattle.panel.proofs.Members.{hit, miss, none_left, fewer}
use Rattle.panel.proofs.member.is_member_by_steps.Goals as goal

pub returns-then-eq : goal.returns-then-eq
returns-then-eq c =
    let a = c.args in
    let l = c.loop-step in
    let x = c.in-Some.step in
    let e = sym c.core.ensures ∙ same_text _ _ c.if-eq.ensures ∙ c.core-wanted.ensures in
    record { finds = λ vs v y g. hit a.code a.description.now a.chosen.now a.first a.count l.at l.left l.invariant (Some x) c.in-Some.ensures (located x.value) x.at x.left refl e vs v (a.description, refl, y) g }

pub loop-step-smaller : goal.loop-step-smaller
loop-step-smaller c =
    let x = c.in-Some.step in
    fewer c.args.code c.args.description.now c.loop-step.at c.loop-step.left (located x.value) x.at x.left c.in-Some.ensures

pub loop-step-preserved : goal.loop-step-preserved
loop-step-preserved c =
    let a = c.args in
    let l = c.loop-step in
    let x = c.in-Some.step in
    miss a.code a.description.now a.chosen.now a.first a.count l.at l.left l.invariant (Some x) c.in-Some.ensures (located x.value) x.at x.left refl (λ e. other_text _ _ c.if-eq.ensures (c.core.ensures ∙ e ∙ sym c.core-wanted.ensures))

pub returns : goal.returns
returns c =
    let a = c.args in
    let l = c.loop-step in
    record { finds = λ vs v y g. none_left a.code a.description.now a.chosen.now a.first a.count l.at l.left l.invariant None c.in_default.ensures refl vs v (a.description, refl, y) g }
