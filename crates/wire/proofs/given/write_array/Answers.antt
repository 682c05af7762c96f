-- `wire::given::write_array`: only an array's code has items. Assumes nothing.
use mathlib.Core.Path.{◌≡◌, ◌∙◌, ap, sym, refl}
use mathlib.Core.List.{List}
use Prim.Native.Nat.{ℕ}
use Rattle.layout.specs.Answer.{bare}
use Rattle.layout.specs.Refusals.{PLACE}
use Rattle.layout.specs.Written.{no}
use Rattle.layout.proofs.laws.Writing.{refusal}
use Rattle.wire.specs.Given.{shape_said}
use Rattle.wire.specs.Says.{says_shape}
use Rattle.wire.specs.declared.kind.Kind.{Kind}
use Rattle.wire.specs.declared.kind.Shape.{Shape}
use Rattle.wire.specs.declared.kind.Shape.TheVariants as shapes
use Rattle.wire.proofs.given.write_array.Goals as goal

none : (x : Shape) → ((k : Kind) → x ≡ shapes.Many k → ⊥) → (bs : List ℕ) → shape_said (says_shape x) bs ≡ no (bare PLACE)
unfolding shape_said
none (shapes.Many k) h bs = absurd (h k refl)
none (shapes.One k) h bs = refl
none shapes.Text h bs = refl
none shapes.Undef h bs = refl

pub returns-in_default : goal.returns-in_default
returns-in_default c =
    let bs = c.args.items.now in
    let d = c.in_default in
    refusal (ap (λ x. shape_said x bs) (sym c.shape_of.ensures) ∙ none c.shape_of.result (λ k e. d.not-Many k e) bs ∙ ap no (sym c.plain.ensures))
