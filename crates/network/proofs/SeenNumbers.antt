-- What was seen of items has `same` exactly where all have the number of the one that asks: of containers and of packets alike.
-- Assumes nothing.
use mathlib.Core.Path.{◌≡◌, refl, sym, subst, ◌∙◌}
use mathlib.Core.Bool.{Bool, true, false}
use mathlib.Core.Logic.{◌↔◌}
use mathlib.Core.List.{List, [], ◌∷◌}
use Prim.Native.Nat.{ℕ}
use borrow.Author.Tests.{eqb-true, eq-eqb}
use lib.Dec.{eqb}
use Rattle.layout.specs.Answer.{pick}
use Rattle.network.specs.TransactionSays.{Each, OneNumber}
use Rattle.network.specs.Translated.{both, folded, none_seen}
use Rattle.network.specs.declared.see.Seen.{Seen}
use Rattle.network.proofs.PacketLaws.{held}

-- each item has a number, and asks or does not; a turn compares and keeps the number so
module _ {A : Type 0} (number : A → ℕ) (asks : A → Bool) (look : Seen → A → Seen) (keeps-number : (t : Seen) (x : A) → (look t x).number ≡ pick (asks x) (number x) t.number)
    (compares : (t : Seen) (x : A) → (look t x).same ≡ both t.same (eqb (number x) (pick (asks x) (number x) t.number))) where
  same_before : (xs : List A) (t : Seen) → (folded look t xs).same ≡ true → t.same ≡ true
  unfolding folded
  same_before [] t h = h
  same_before (x ∷ xs) t h = (held t.same (eqb (number x) (pick (asks x) (number x) t.number)) (sym (compares t x) ∙ same_before xs (look t x) h)).0

  -- the next item has the number, where it does not ask
  pub same_here : (x : A) (xs : List A) (t : Seen) → asks x ≡ false → (folded look t (x ∷ xs)).same ≡ true → number x ≡ t.number
  unfolding folded
  same_here x xs t quiet h =
      let both-are = sym (compares t x) ∙ same_before xs (look t x) h in
      eqb-true (number x) t.number (rw quiet at (held t.same (eqb (number x) (pick (asks x) (number x) t.number)) both-are).1)

  kept : (x : A) (t : Seen) → asks x ≡ false → (look t x).number ≡ t.number
  kept x t quiet = keeps-number t x ∙ rw quiet

  same_each : (xs : List A) (t : Seen) → Each (λ x. asks x ≡ false) xs → (folded look t xs).same ≡ true → Each (λ x. number x ≡ t.number) xs
  unfolding folded
  same_each [] t none h = tt
  same_each (x ∷ xs) t (quiet, none) h = (same_here x xs t quiet h, subst (λ n. Each (λ y. number y ≡ n) xs) (kept x t quiet) (same_each xs (look t x) none h))

  each_same : (xs : List A) (t : Seen) → Each (λ x. asks x ≡ false) xs → t.same ≡ true → Each (λ x. number x ≡ t.number) xs → (folded look t xs).same ≡ true
  unfolding folded
  each_same [] t none h each = h
  each_same (x ∷ xs) t (quiet, none) h (is, each) =
      each_same xs (look t x) none (compares t x ∙ rw (h, quiet, is) (eq-eqb t.number t.number refl)) (subst (λ n. Each (λ y. number y ≡ n) xs) (sym (kept x t quiet)) each)

  -- of the first, which asks, and the others, which do not
  module _ (c : A) (xs : List A) (asking : asks c ≡ true) (none : Each (λ x. asks x ≡ false) xs) where
    first_number : (look none_seen c).number ≡ number c
    first_number = keeps-number none_seen c ∙ rw asking

    pub one_number_exactly : ((folded look none_seen (c ∷ xs)).same ≡ true) ↔ OneNumber number (c ∷ xs)
    unfolding folded
    one_number_exactly = (
      λ h. subst (λ n. Each (λ y. number y ≡ n) xs) first_number (same_each xs (look none_seen c) none h),
      λ each. each_same xs (look none_seen c) none (compares none_seen c ∙ rw asking (eq-eqb (number c) (number c) refl)) (subst (λ n. Each (λ y. number y ≡ n) xs) (sym first_number) each),
    )
