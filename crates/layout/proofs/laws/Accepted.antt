-- What holds of every reading that an answer accepts, carried from field to field.
-- Assumes nothing.
use mathlib.Core.Path.{◌≡◌, refl, sym, subst}
use mathlib.Core.Bool.{Bool, true, false}
use mathlib.Core.List.{List}
use Prim.Native.Nat.{ℕ, ◌+◌, ◌-◌, ◌≤◌}
use lib.ListN.{length}
use Rattle.layout.specs.Answer.{Answer, got, refused, pick, after, means, span_at, field_at}
use Rattle.layout.proofs.laws.Make.{Spanned, there, short, spanned}

abbrev pub Accepts : {A : Type 0} → (A → ℕ → Type 0) → Answer A → Type 0
Accepts P (got a n) = P a n
Accepts P (refused t) = Unit {0}

-- of the reading that it is
pub accepted : {A : Type 0} (P : A → ℕ → Type 0) {x : Answer A} {a : A} {n : ℕ} → Accepts P x → got a n ≡ x → P a n
accepted P h e = subst (Accepts P) (sym e) h

-- nothing is asked; less is asked; both are asked
pub accepts_any : {A : Type 0} (x : Answer A) → Accepts (λ _ _. Unit {0}) x
accepts_any (got a n) = tt
accepts_any (refused t) = tt

pub accepts_all : {A : Type 0} (P Q : A → ℕ → Type 0) (x : Answer A) → Accepts P x → ((a : A) (n : ℕ) → P a n → Q a n) → Accepts Q x
accepts_all P Q (got a n) h f = f a n h
accepts_all P Q (refused t) h f = tt

pub accepts_both : {A : Type 0} (P Q : A → ℕ → Type 0) (x : Answer A) → Accepts P x → Accepts Q x → Accepts (λ a n. P a n × Q a n) x
accepts_both P Q (got a n) h k = (h, k)
accepts_both P Q (refused t) h k = tt

-- from an answer to the next
pub accepts_means : {A B : Type 0} (P : A → ℕ → Type 0) (Q : B → ℕ → Type 0) (f : A → B) (x : Answer A) → Accepts P x → ((a : A) (n : ℕ) → P a n → Q (f a) n) → Accepts Q (means f x)
unfolding means
accepts_means P Q f (got a n) h k = k a n h
accepts_means P Q f (refused t) h k = tt

pub accepts_after : {A B : Type 0} (P : A → ℕ → Type 0) (Q : B → ℕ → Type 0) (x : Answer A) (k : A → ℕ → Answer B) → Accepts P x → ((a : A) (n : ℕ) → P a n → Accepts Q (k a n)) → Accepts Q (after x k)
unfolding after
accepts_after P Q (got a n) k h f = f a n h
accepts_after P Q (refused t) k h f = tt

pub accepts_pick : {A : Type 0} (P : A → ℕ → Type 0) (b : Bool) (x y : Answer A) → (b ≡ true → Accepts P x) → (b ≡ false → Accepts P y) → Accepts P (pick b x y)
accepts_pick P true x y f g = f refl
accepts_pick P false x y f g = g refl

-- a span and a field lie within
pub accepts_span : (field n : ℕ) (s : List ℕ) (at : ℕ) → Accepts (λ _ m. (n ≤ length s - at) × (m ≡ at + n)) (span_at field n s at)
accepts_span field n s at = go (span_at field n s at) (spanned field n s at)
  where
    go : (x : Answer (Unit {0})) → Spanned field n s at x → Accepts (λ _ m. (n ≤ length s - at) × (m ≡ at + n)) x
    go (got t m) (there h) = (h, refl)
    go (refused t) (short h) = tt

pub accepts_field : {A : Type 0} (w : ℕ) (mean : List ℕ → A) (s : List ℕ) (at : ℕ) → Accepts (λ a n. (w ≤ length s - at) × (n ≡ at + w)) (field_at w mean s at)
unfolding field_at
accepts_field w mean s at = accepts_after _ _ (span_at at w s at) _ (accepts_span at w s at) λ _ n h. h
