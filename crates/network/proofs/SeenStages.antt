-- How a row of items ends: with the Response, or it is no transaction; of containers and of packets alike.
-- Assumes nothing.
use mathlib.Core.Path.{◌≡◌, refl, sym, ap, ◌∙◌}
use mathlib.Core.Bool.{Bool, true, false}
use mathlib.Core.List.{List, [], ◌∷◌}
use Rattle.layout.proofs.laws.Numbers.{zero_one}
use Rattle.network.specs.Translated.{folded, is_answered}
use Rattle.network.specs.declared.see.Seen.{Seen}
use Rattle.network.specs.declared.see.Stage.{Stage}
use Rattle.network.specs.declared.see.Stage.TheVariants as stage

-- a turn leaves `Not` as it is, and makes it of `Answered`
module _ {A : Type 0} (look : Seen → A → Seen) (stays : (t : Seen) (x : A) → t.stage ≡ stage.Not → (look t x).stage ≡ stage.Not) (stops : (t : Seen) (x : A) → t.stage ≡ stage.Answered → (look t x).stage ≡ stage.Not) where
  abbrev pub Over : Seen → List A → Type 0
  Over t xs = is_answered (folded look t xs).stage ≡ true

  -- before the Response it is not over
  pub not_over : {X : Type 0} (t : Seen) (k : Stage) → t.stage ≡ k → is_answered k ≡ false → Over t [] → X
  unfolding folded
  not_over t k e f h = let g : ◌≡◌ {A = Bool} false true = sym (ap is_answered e ∙ f) ∙ h in zero_one (cc)

  pub lost : {X : Type 0} (xs : List A) (t : Seen) → t.stage ≡ stage.Not → Over t xs → X
  unfolding folded
  lost [] t e h = not_over t stage.Not e refl h
  lost (x ∷ xs) t e h = lost xs (look t x) (stays t x e) h

  pub ended : (xs : List A) (t : Seen) → t.stage ≡ stage.Answered → Over t xs → xs ≡ []
  unfolding folded
  ended [] t e h = refl
  ended (x ∷ xs) t e h = lost xs (look t x) (stops t x e) h
