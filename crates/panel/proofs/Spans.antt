-- A range by its words. Integers that one type has, signed or not, are compared and told apart by their sign and word as they are themselves; and from a smaller to a
-- greater one the words' difference modulo 2^64 is the integers' own. So the code's test of a range is the one over the integers, once for all eight types.
-- Assumes nothing.
use Rattle.std.proofs.Common.{◌≡◌, ℕ, zero, suc, ◌+◌, ◌-◌, ◌^◌, ◌<◌, ◌≤◌, Bool, true, false, not, eqb, ltb, leb, ℤ, pos, negsuc, ◌-ℤ◌, nat_abs, refl, arith, le-ltb, ne_eqb, eqb-true, leb-false, leb-true}
use borrow.Author.Tests.{eqb-false}
use lib.Signed.{mag, lt_z, le_z, non_neg}
use Rattle.layout.specs.Answer.{pick}
use Rattle.layout.proofs.laws.Numbers.{zero_one}
use Rattle.wire.specs.Codecs.{unsigned}
use Rattle.panel.specs.Test.{same_z, on_step, in_range}
use Rattle.panel.specs.Words.{at_most, span, at_end, at_step, whole_range}
use Rattle.panel.specs.declared.range.Whole.{Whole}

-- below 0, as the machine tests it
pub below_zero : (z : ℤ) → lt_z z (pos 0) ≡ not (non_neg z)
below_zero (pos n) = le-ltb n 0 (omega arith)
below_zero (negsuc n) = refl

-- an integer's sign and word
abbrev pub whole : ℤ → Whole
whole z = record { below = not (non_neg z); word = unsigned (2 ^ 64) z }

-- an integer that the signed types have, and one that the unsigned types have
pub data Fit : Bool → ℤ → Type 0 where
  signed : {z : ℤ} → mag z < 2 ^ 63 → Fit true z
  natural : {n : ℕ} → n < 2 ^ 64 → Fit false (pos n)

-- ── two tests that agree ──

leb_same : (a b c d : ℕ) → (a ≤ b → c ≤ d) → (c ≤ d → a ≤ b) → leb a b ≡ leb c d
leb_same a b c d f g = go (leb a b) refl (leb c d) refl
  where
    go : (x : Bool) → leb a b ≡ x → (y : Bool) → leb c d ≡ y → x ≡ y
    go true e true k = refl
    go false e false k = refl
    go true e false k = let z = f (leb-true a b e) in absurd (omega (arith, leb-false c d k))
    go false e true k = let z = g (leb-true c d k) in absurd (omega (arith, leb-false a b e))

eqb_same : (a b c d : ℕ) → (a ≡ b → c ≡ d) → (c ≡ d → a ≡ b) → eqb a b ≡ eqb c d
eqb_same a b c d f g = go (eqb a b) refl (eqb c d) refl
  where
    go : (x : Bool) → eqb a b ≡ x → (y : Bool) → eqb c d ≡ y → x ≡ y
    go true e true k = refl
    go false e false k = refl
    go true e false k = absurd (eqb-false c d k (f (eqb-true a b e)))
    go false e true k = absurd (eqb-false a b e (g (eqb-true c d k)))

-- ── order, equality, span ──

word_order : (b : Bool) (x y : ℤ) → Fit b x → Fit b y → at_most (whole x) (whole y) ≡ le_z x y
unfolding at_most
word_order true (pos m) (pos n) (signed h) (signed k) = refl
word_order true (pos m) (negsuc n) (signed h) (signed k) = refl
word_order true (negsuc m) (pos n) (signed h) (signed k) = refl
word_order true (negsuc m) (negsuc n) (signed h) (signed k) = leb_same (2 ^ 64 - suc m) (2 ^ 64 - suc n) n m (λ e. omega arith) (λ e. omega arith)
word_order false (pos m) (pos n) (natural h) (natural k) = refl
word_order false (pos m) (negsuc n) h k = elim k [ ]
word_order false (negsuc m) y h k = elim h [ ]

word_same : (b : Bool) (x y : ℤ) → Fit b x → Fit b y → eqb (whole x).word (whole y).word ≡ same_z x y
word_same true (pos m) (pos n) (signed h) (signed k) = refl
word_same true (pos m) (negsuc n) (signed h) (signed k) = ne_eqb m (2 ^ 64 - suc n) (λ e. omega arith)
word_same true (negsuc m) (pos n) (signed h) (signed k) = ne_eqb (2 ^ 64 - suc m) n (λ e. omega arith)
word_same true (negsuc m) (negsuc n) (signed h) (signed k) = eqb_same (2 ^ 64 - suc m) (2 ^ 64 - suc n) m n (λ e. omega arith) (λ e. omega arith)
word_same false (pos m) (pos n) (natural h) (natural k) = refl
word_same false (pos m) (negsuc n) h k = elim k [ ]
word_same false (negsuc m) y h k = elim h [ ]

-- what is above the smaller one
pub gap : (low v : ℤ) → le_z low v ≡ true → (d : ℕ) × (v -ℤ low ≡ pos d)
gap (pos zero) (pos n) e = (n + 0, refl)
gap (pos (suc m)) (pos n) e = let f : ltb n (suc m) ≡ false = le-ltb n (suc m) (leb-true (suc m) n e) in (n - suc m, rw f)
gap (pos m) (negsuc n) e = zero_one (cc)
gap (negsuc m) (pos n) e = (n + suc m, refl)
gap (negsuc m) (negsuc n) e = let f : ltb (suc m) (suc n) ≡ false = le-ltb (suc m) (suc n) (omega (arith, leb-true n m e)) in (suc m - suc n, rw f)

word_span : (b : Bool) (low v : ℤ) → Fit b low → Fit b v → le_z low v ≡ true → span (whole low) (whole v) ≡ nat_abs (v -ℤ low)
unfolding span
word_span true (pos zero) (pos n) (signed h) (signed k) e = omega arith
word_span true (pos (suc m)) (pos n) (signed h) (signed k) e = let f : ltb n (suc m) ≡ false = le-ltb n (suc m) (leb-true (suc m) n e) in rw f (omega (arith, leb-true (suc m) n e))
word_span true (pos m) (negsuc n) (signed h) (signed k) e = zero_one (cc)
word_span true (negsuc m) (pos n) (signed h) (signed k) e = omega arith
word_span true (negsuc m) (negsuc n) (signed h) (signed k) e =
    let f : ltb (suc m) (suc n) ≡ false = le-ltb (suc m) (suc n) (omega (arith, leb-true n m e)) in
    rw f (omega (arith, leb-true n m e))
word_span false (pos zero) (pos n) (natural h) (natural k) e = omega arith
word_span false (pos (suc m)) (pos n) (natural h) (natural k) e = let f : ltb n (suc m) ≡ false = le-ltb n (suc m) (leb-true (suc m) n e) in rw f (omega (arith, leb-true (suc m) n e))
word_span false (pos zero) (negsuc n) h k e = elim k [ ]
word_span false (pos (suc m)) (negsuc n) h k e = elim k [ ]
word_span false (negsuc m) v h k e = elim h [ ]

-- ── the test of a range ──

module _ (b : Bool) (low high v : ℤ) (l : Fit b low) (h : Fit b high) (k : Fit b v) where
  word_end : at_end (whole low) (whole high) (whole v) ≡ pick (same_z v low) true (same_z v high)
  word_end = rw (word_same b v low k l, word_same b v high k h)

  word_step : (step : ℤ) → le_z low v ≡ true → at_step (whole low) (whole high) (whole step) (whole v) ≡ on_step low high step v
  unfolding at_step on_step
  word_step (pos zero) e = word_end
  word_step (pos (suc n)) e = rw (ne_eqb (suc n) 0 (λ z. omega arith), word_span b low v l k e)
  word_step (negsuc n) e = word_end

  pub word_range : (step : ℤ) → whole_range (whole low) (whole high) (whole step) (whole v) ≡ in_range low high step v
  unfolding whole_range in_range
  word_range step = rw (word_order b low v l k, word_order b v high k h) (go (le_z low v) refl (le_z v high))
    where
      go : (x : Bool) → le_z low v ≡ x → (y : Bool) → pick x (pick y (at_step (whole low) (whole high) (whole step) (whole v)) false) false ≡ pick x (pick y (on_step low high step v) false) false
      go true e true = word_step step e
      go true e false = refl
      go false e y = refl
