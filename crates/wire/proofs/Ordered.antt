-- The parts of a description begin where the layout puts them: each where the one before it ends.
-- Assumes nothing.
use mathlib.Core.Option.{some, none}
use mathlib.Core.Bool.{Bool, true, false}
use mathlib.Core.Path.{◌≡◌, refl, ◌∙◌}
use mathlib.Core.List.{List}
use Prim.Native.Nat.{ℕ, zero, suc, ◌+◌}
use native.Mathlib.Omega.{arith}
use borrow.Author.Tests.{ne_eqb}
use lib.Dec.{eqb}
use lib.ListN.{take, drop, length}
use Rattle.layout.specs.Answer.{Told, Answer, got, refused, after, pick, span_at, field_at}
use Rattle.layout.specs.Bytes.{number, bytes}
use Rattle.layout.specs.Codec.{repeated}
use Rattle.layout.proofs.laws.Local.{repeated_local, alone}
use Rattle.layout.proofs.laws.Make.{Spanned, short, spanned, there}
use Rattle.layout.proofs.laws.Numbers.{zero_one}
use Rattle.wire.specs.Description.{PropInfo}
use Rattle.wire.specs.Description as placed
use Rattle.wire.specs.Layout.{Val}
use Rattle.wire.specs.Codecs.{value, enable_write}
use Rattle.wire.specs.Places.{num_at}
use Rattle.wire.specs.Property.{between, values_at, range_at, list_at, form_at, property_at, enable_at}
use Rattle.wire.specs.Worded.{ends, FormInOrder, InOrder}
use Rattle.wire.proofs.Locals.{value_local}

-- what holds of an answer and of the place after it, if it is one
data When {A : Type 0} (P : A → ℕ → Type 0) : Answer A → Type 0 where
  when : (a : A) (n : ℕ) → P a n → When P (got a n)
  never : {t : Told} → When P (refused t)

when_after : {A B : Type 0} {P : A → ℕ → Type 0} {Q : B → ℕ → Type 0} {x : Answer A} (k : A → ℕ → Answer B) → When P x → ((a : A) (n : ℕ) → P a n → When Q (k a n)) → When Q (after x k)
unfolding after
when_after k (when a n h) f = f a n h
when_after k never f = never

module _ (s : List ℕ) where
  number_ends : (w at : ℕ) → When (λ _ n. n ≡ at + w) (num_at w s at)
  unfolding field_at after
  number_ends w at = go (span_at at w s at) (spanned at w s at)
    where
      go : (x : Answer (Unit {0})) → Spanned at w s at x → When (λ _ n. n ≡ at + w) (after x λ _ next. got (number (take w (drop at s))) next)
      go (got t n) (there f) = when _ n refl
      go (refused t) (short f) = never

  values_end : (t m at : ℕ) → When (λ p n. (p.start ≡ at) × (n ≡ ends p)) (values_at t m s at)
  unfolding values_at after
  values_end t m at = go ((repeated m (value t)).read s at) refl
    where
      go : (x : Answer (List Val)) → (repeated m (value t)).read s at ≡ x → When (λ p n. (p.start ≡ at) × (n ≡ ends p)) (after x λ _ n. got (between at n) n)
      go (got vs n) e = when (between at n) n (refl, omega (arith, (alone (repeated_local m (value_local t)) s at vs n e).0))
      go (refused u) e = never

  form_order : (t at : ℕ) → When (λ f n. FormInOrder at n f) (form_at t s at)
  unfolding form_at range_at list_at
  form_order t at = when_after _ (number_ends 1 at) λ b p i. by b p i
    where
      by : (b p : ℕ) → p ≡ at + 1 → When (λ f n. FormInOrder at n f) (pick (eqb b 1) (range_at t s p) (pick (eqb b 2) (list_at t s p) (got placed.absent p)))
      by zero p i = when placed.absent p i
      by (suc zero) p i =
          when_after _ (values_end t 1 p) λ x a u.
          when_after _ (values_end t 1 a) λ y b v.
          when_after _ (values_end t 1 b) λ z n w.
          when (placed.range x y z) n (u.0 ∙ i, v.0 ∙ u.1, w.0 ∙ v.1, w.1)
      by (suc (suc zero)) p i =
          when_after _ (number_ends 2 p) λ n q j.
          when_after _ (values_end t n q) λ y m w.
          when (placed.list y n) m (omega (arith, w.0, i, j), w.1)
      by (suc (suc (suc n))) p i = rw (ne_eqb (suc (suc (suc n))) 1 (λ e. omega arith), ne_eqb (suc (suc (suc n))) 2 (λ e. omega arith)) (when placed.absent p i)

  enable_ends : (has : Bool) (at : ℕ) → When (λ e n. n ≡ at + length (enable_write e)) (enable_at has s at)
  unfolding enable_at bytes
  enable_ends true at = when_after _ (number_ends 1 at) λ v n i. when (some v) n i
  enable_ends false at = when none at (omega arith)

  property_order : (has : Bool) (at : ℕ) → When (λ x n. InOrder at x n) (property_at has s at)
  unfolding property_at
  property_order has at =
      when_after _ (number_ends 2 at) λ _ a i.
      when_after _ (number_ends 2 a) λ t b j.
      when_after _ (number_ends 1 b) λ _ c k.
      when_after _ (enable_ends has c) λ _ d l.
      when_after _ (values_end t 1 d) λ x e u.
      when_after _ (values_end t 1 e) λ y f v.
      when_after _ (form_order t f) λ z n w.
      when _ n (record { default = omega (arith, u.0, i, j, k, l); current = v.0 ∙ u.1; form = rw (← v.1) w })

  pub in_order : (has : Bool) (at : ℕ) (x : PropInfo) (n : ℕ) → property_at has s at ≡ got x n → InOrder at x n
  in_order has at x n e = go (property_at has s at) (property_order has at) e
    where
      go : (y : Answer PropInfo) → When (λ x n. InOrder at x n) y → y ≡ got x n → InOrder at x n
      go (got z m) (when z' m' w) e = let f : z ≡ x = cc in let g : m ≡ n = cc in rw (f, g) at w
      go (refused u) never e = zero_one (cc)
