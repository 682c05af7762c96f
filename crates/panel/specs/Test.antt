-- The test of what a form allows, as it computes. That it holds exactly where `Allowed` does is proved in proofs/Tested.
-- Assumes nothing.
use Rattle.std.specs.Prelude.{◌≡◌, ℕ, zero, suc, ◌%◌, Bool, true, false, List, [], ◌∷◌, ℤ, pos, negsuc, ◌-ℤ◌, ◌==◌, int_le, unsigned_abs, refl}
use mathlib.Core.HLevel.{Discrete}
use mathlib.Core.List.{List-discrete}
use Rattle.std.proofs.Math.Option.{Option, some, none}
use Rattle.std.proofs.Math.Decide.{ℕ_discrete}
use Rattle.std.proofs.Common.{arith}
use Rattle.std.proofs.Math.IntN.{ℤ_discrete}
use Rattle.layout.specs.Answer.{pick}
use Rattle.wire.specs.Layout.{Num, int, nat, pair, Val, num, nums, str, nil, Form, range, list, no_form}

-- ── equal or not ──

abbrev pub decided : {A : Type 0} → Dec A → Bool
decided (yes a) = true
decided (no f) = false

apart : {X : Type 0} → ◌≡◌ {A = ℕ} 0 1 → X
apart e = absurd (omega arith)

num_discrete : Discrete Num
num_discrete (int a) (int b) = elim (ℤ_discrete a b) [ yes p ↦ yes (cc) | no f ↦ no λ e. f (cc) ]
num_discrete (int a) (nat b) = no λ e. apart (cc)
num_discrete (int a) (pair h l) = no λ e. apart (cc)
num_discrete (nat a) (int b) = no λ e. apart (cc)
num_discrete (nat a) (nat b) = elim (ℕ_discrete a b) [ yes p ↦ yes (cc) | no f ↦ no λ e. f (cc) ]
num_discrete (nat a) (pair h l) = no λ e. apart (cc)
num_discrete (pair g k) (int b) = no λ e. apart (cc)
num_discrete (pair g k) (nat b) = no λ e. apart (cc)
num_discrete (pair g k) (pair h l) = both (ℕ_discrete g h) (ℕ_discrete k l)
  where
    both : Dec (g ≡ h) → Dec (k ≡ l) → Dec (pair g k ≡ pair h l)
    both (yes p) (yes q) = yes (cc)
    both (yes p) (no f) = no λ e. f (cc)
    both (no f) d = no λ e. f (cc)

pub val_discrete : Discrete Val
val_discrete (num a) (num b) = elim (num_discrete a b) [ yes p ↦ yes (cc) | no f ↦ no λ e. f (cc) ]
val_discrete (num a) (nums b) = no λ e. apart (cc)
val_discrete (num a) (str b) = no λ e. apart (cc)
val_discrete (num a) nil = no λ e. apart (cc)
val_discrete (nums a) (num b) = no λ e. apart (cc)
val_discrete (nums a) (nums b) = elim (List-discrete num_discrete a b) [ yes p ↦ yes (cc) | no f ↦ no λ e. f (cc) ]
val_discrete (nums a) (str b) = no λ e. apart (cc)
val_discrete (nums a) nil = no λ e. apart (cc)
val_discrete (str a) (num b) = no λ e. apart (cc)
val_discrete (str a) (nums b) = no λ e. apart (cc)
val_discrete (str a) (str b) = elim (List-discrete ℕ_discrete a b) [ yes p ↦ yes (cc) | no f ↦ no λ e. f (cc) ]
val_discrete (str a) nil = no λ e. apart (cc)
val_discrete nil (num b) = no λ e. apart (cc)
val_discrete nil (nums b) = no λ e. apart (cc)
val_discrete nil (str b) = no λ e. apart (cc)
val_discrete nil nil = yes refl

-- ── a list: the value equals some member ──

unfoldable pub is_member : Val → List Val → Bool
is_member v [] = false
is_member v (w ∷ ws) = pick (decided (val_discrete v w)) true (is_member v ws)

-- ── a range, over the integers ──

abbrev pub same_z : ℤ → ℤ → Bool
same_z (pos m) (pos n) = m == n
same_z (pos m) (negsuc n) = false
same_z (negsuc m) (pos n) = false
same_z (negsuc m) (negsuc n) = m == n

-- at a step: the ends alone where it is 0 or below, else no remainder is left above the minimum
unfoldable pub on_step : ℤ → ℤ → ℤ → ℤ → Bool
on_step low high (pos zero) v = pick (same_z v low) true (same_z v high)
on_step low high (pos (suc n)) v = unsigned_abs (v -ℤ low) % suc n == 0
on_step low high (negsuc n) v = pick (same_z v low) true (same_z v high)

unfoldable pub in_range : ℤ → ℤ → ℤ → ℤ → Bool
in_range low high step v = pick (int_le low v) (pick (int_le v high) (on_step low high step v) false) false

-- the integer that a value is
abbrev pub integer : Val → Option ℤ
integer (num (int z)) = some z
integer (num (nat n)) = some (pos n)
integer (num (pair h l)) = none
integer (nums ns) = none
integer (str us) = none
integer nil = none

abbrev pub given : Option ℤ → (ℤ → Bool) → Bool
given (some z) test = test z
given none test = false

-- ── every form ──

unfoldable pub allows : Form → Val → Bool
allows no_form v = true
allows (list vs) v = is_member v vs
allows (range a b c) v =
    given (integer a) λ low.
    given (integer b) λ high.
    given (integer c) λ step.
    given (integer v) λ z.
    in_range low high step z
