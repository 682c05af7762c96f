-- Which codes the table of kinds has: 1 to 10; and how many bytes an integer of each has.
-- Assumes nothing.
use mathlib.Core.Path.{◌≡◌, refl}
use mathlib.Core.Logic.{◌↔◌, ◌⊎◌, inl, inr}
use mathlib.Core.Option.{Option, some, none}
use Prim.Native.Nat.{ℕ, zero, suc, ◌≤◌, ◌<◌}
use native.Mathlib.Omega.{arith}
use lib.Dec.{lit≤}
use lib.ListN.{get_or}
use Rattle.wire.specs.Layout.{Kind, sint, uint, wide, kinds, integer_width, one, shape}
use Rattle.wire.specs.Numbers.{Plain, one_byte, two_bytes, four_bytes, eight_bytes}

-- a code that is not below k, nor k, is above it
pub past_key : (k t : ℕ) → k ≤ t → (t ≡ k → ⊥) → suc k ≤ t
past_key k t h f = omega arith

pub data KindAt (m : ℕ) : Option Kind → Type 0 where
  a_kind : (k : Kind) → 1 ≤ m → m ≤ 10 → KindAt m (some k)
  no_kind : (m < 1) ⊎ (10 < m) → KindAt m none

pub kind_at : (m : ℕ) → KindAt m (get_or kinds m none)
kind_at zero = no_kind (inl (lit≤ tt))
kind_at (suc zero) = a_kind _ (lit≤ tt) (lit≤ tt)
kind_at (suc (suc zero)) = a_kind _ (lit≤ tt) (lit≤ tt)
kind_at (suc (suc (suc zero))) = a_kind _ (lit≤ tt) (lit≤ tt)
kind_at (suc (suc (suc (suc zero)))) = a_kind _ (lit≤ tt) (lit≤ tt)
kind_at (suc (suc (suc (suc (suc zero))))) = a_kind _ (lit≤ tt) (lit≤ tt)
kind_at (suc (suc (suc (suc (suc (suc zero)))))) = a_kind _ (lit≤ tt) (lit≤ tt)
kind_at (suc (suc (suc (suc (suc (suc (suc zero))))))) = a_kind _ (lit≤ tt) (lit≤ tt)
kind_at (suc (suc (suc (suc (suc (suc (suc (suc zero)))))))) = a_kind _ (lit≤ tt) (lit≤ tt)
kind_at (suc (suc (suc (suc (suc (suc (suc (suc (suc zero))))))))) = a_kind _ (lit≤ tt) (lit≤ tt)
kind_at (suc (suc (suc (suc (suc (suc (suc (suc (suc (suc zero)))))))))) = a_kind _ (lit≤ tt) (lit≤ tt)
kind_at (suc (suc (suc (suc (suc (suc (suc (suc (suc (suc (suc m))))))))))) = no_kind (inr (omega arith))

-- ── widths ──

pub data Numbers (t w : ℕ) : Type 0 where
  below : shape t ≡ one (sint w) → Numbers t w
  above : shape t ≡ one (uint w) → Numbers t w

-- a code has no integers, those of 8 to 64 bits, or those of 128
pub data WidthAt (t : ℕ) : ℕ → Type 0 where
  no_integer : (t < 1) ⊎ (10 < t) → WidthAt t 0
  a_number : {w : ℕ} → 1 ≤ t → t ≤ 8 → Numbers t w → Plain w → WidthAt t w
  a_pair : 8 < t → t ≤ 10 → shape t ≡ one wide → WidthAt t 16

pub width_at : (t : ℕ) → WidthAt t (integer_width t)
unfolding integer_width
width_at zero = no_integer (inl (lit≤ tt))
width_at (suc zero) = a_number (lit≤ tt) (lit≤ tt) (below refl) one_byte
width_at (suc (suc zero)) = a_number (lit≤ tt) (lit≤ tt) (above refl) one_byte
width_at (suc (suc (suc zero))) = a_number (lit≤ tt) (lit≤ tt) (below refl) two_bytes
width_at (suc (suc (suc (suc zero)))) = a_number (lit≤ tt) (lit≤ tt) (above refl) two_bytes
width_at (suc (suc (suc (suc (suc zero))))) = a_number (lit≤ tt) (lit≤ tt) (below refl) four_bytes
width_at (suc (suc (suc (suc (suc (suc zero)))))) = a_number (lit≤ tt) (lit≤ tt) (above refl) four_bytes
width_at (suc (suc (suc (suc (suc (suc (suc zero))))))) = a_number (lit≤ tt) (lit≤ tt) (below refl) eight_bytes
width_at (suc (suc (suc (suc (suc (suc (suc (suc zero)))))))) = a_number (lit≤ tt) (lit≤ tt) (above refl) eight_bytes
width_at (suc (suc (suc (suc (suc (suc (suc (suc (suc zero))))))))) = a_pair (lit≤ tt) (lit≤ tt) refl
width_at (suc (suc (suc (suc (suc (suc (suc (suc (suc (suc zero)))))))))) = a_pair (lit≤ tt) (lit≤ tt) refl
width_at (suc (suc (suc (suc (suc (suc (suc (suc (suc (suc (suc m))))))))))) = no_integer (inr (omega arith))

pub plain_some : {w : ℕ} → Plain w → 1 ≤ w
plain_some one_byte = lit≤ tt
plain_some two_bytes = lit≤ tt
plain_some four_bytes = lit≤ tt
plain_some eight_bytes = lit≤ tt

pub plain_few : {w : ℕ} → Plain w → w ≤ 8
plain_few one_byte = lit≤ tt
plain_few two_bytes = lit≤ tt
plain_few four_bytes = lit≤ tt
plain_few eight_bytes = lit≤ tt

-- 1, 2, 4 or 8 bytes where there are any and no more than 8
pub width_plain : (t : ℕ) → (integer_width t ≡ 0 → ⊥) → integer_width t ≤ 8 → Numbers t (integer_width t) × Plain (integer_width t)
width_plain t any few = go (width_at t) any few
  where
    go : {w : ℕ} → WidthAt t w → (w ≡ 0 → ⊥) → w ≤ 8 → Numbers t w × Plain w
    go (no_integer o) any few = absurd (any refl)
    go (a_number h k n p) any few = (n, p)
    go (a_pair h k e) any few = absurd (omega arith)

-- 128 bits, else no more than 64
pub width_few : (t : ℕ) → (integer_width t ≡ 16 → ⊥) → integer_width t ≤ 8
width_few t h = go (width_at t) h
  where
    go : {w : ℕ} → WidthAt t w → (w ≡ 16 → ⊥) → w ≤ 8
    go (no_integer o) h = lit≤ tt
    go (a_number g k n p) h = plain_few p
    go (a_pair g k e) h = absurd (h refl)

-- 0 exactly for the codes that are no integer's
pub width_none : (t : ℕ) → integer_width t ≡ 0 ↔ ((t < 1) ⊎ (10 < t))
width_none t = go (width_at t)
  where
    inside : 1 ≤ t → t ≤ 10 → (t < 1) ⊎ (10 < t) → ⊥
    inside h k (inl o) = omega arith
    inside h k (inr o) = omega arith

    go : {w : ℕ} → WidthAt t w → w ≡ 0 ↔ ((t < 1) ⊎ (10 < t))
    go (no_integer o) = (λ _. o, λ _. refl)
    go (a_number h k n p) = (λ e. absurd (omega (arith, e, plain_some p)), λ o. absurd (inside h (omega arith) o))
    go (a_pair h k e) = (λ z. absurd (omega arith), λ o. absurd (inside (omega arith) k o))
