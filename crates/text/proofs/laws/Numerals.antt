-- The fewest digits that hold a number are one count; and a 64-bit number has at most twenty.
-- Assumes nothing.
use mathlib.Core.Path.{◌≡◌, refl, ap, ◌∙◌}
use mathlib.Core.Bool.{Bool, true, false}
use mathlib.Core.List.{List, [], ◌∷◌}
use Prim.Native.Nat.{ℕ, zero, suc, ◌-◌, ◌/◌, ◌%◌, ◌^◌, ◌≤◌, ◌<◌}
use native.Mathlib.Nat.{pow-le-pow_right, pow-suc}
use native.Mathlib.Omega.{arith}
use borrow.Author.Tests.{ltb-true, ltb-false, leb-true, leb-false}
use lib.Dec.{leb, ltb, lit≤}
use lib.ListN.{length, take, length-append}
use lib.Seq.{take-take}
use Rattle.io.specs.Digits.{last_digits, hex_digit_ascii, IsDigitCount}
use Rattle.layout.specs.Answer.{pick}
use Rattle.text.specs.Number.{digits_of, decimal}

below : (b least n j k : ℕ) → 1 ≤ b → IsDigitCount b least n j → IsDigitCount b least n k → j < k → ⊥
below b least n j k h p q l = let m : b ^ j ≤ b ^ (k - 1) = pow-le-pow_right h (omega arith) in omega (arith, p.1, q.2 (omega (arith, p.0)))

-- two counts of fewest digits are the same
pub one_count : (b least n j k : ℕ) → 1 ≤ b → IsDigitCount b least n j → IsDigitCount b least n k → j ≡ k
one_count b least n j k h p q = omega (arith, below b least n j k h p q, below b least n k j h q p)

module _ (n : ℕ) where
  high : (k : ℕ) → 10 ≤ n → IsDigitCount 10 1 (n / 10) k → (b : Bool) → leb k 1 ≡ b → 10 ^ k ≤ n
  high k t p true e = let i : k ≡ 1 = omega (arith, leb-true k 1 e, p.0) in rw i t
  high k t p false e =
      let i : k ≡ suc (k - 1) = omega (arith, p.0) in
      let j = leb-false k 1 e in
      let q : 10 ^ suc (k - 1) ≤ n = omega (arith, pow-suc 10 (k - 1), p.2 (omega arith)) in
      rw (← i) at q

  -- a number of more than one digit has one more than its tenth
  pub more : (k : ℕ) → 10 ≤ n → IsDigitCount 10 1 (n / 10) k → IsDigitCount 10 1 n (suc k)
  more k t p = (omega arith, omega (arith, pow-suc 10 k, p.1), λ l. let i : suc k - 1 ≡ k = omega arith in rw i (high k t p (leb k 1) refl))

pub fewest : (f n : ℕ) → n ≤ f → IsDigitCount 10 1 n (digits_of f n)
unfolding digits_of
fewest zero n h = (omega arith, omega arith, λ l. omega arith)
fewest (suc f) n h = go (ltb n 10) refl (fewest f (n / 10))
  where
    go : (b : Bool) → ltb n 10 ≡ b → (n / 10 ≤ f → IsDigitCount 10 1 (n / 10) (digits_of f (n / 10))) → IsDigitCount 10 1 n (pick b 1 (suc (digits_of f (n / 10))))
    go true e r = let t = ltb-true n 10 e in (omega arith, omega arith, λ l. omega arith)
    go false e r = let t = ltb-false n 10 e in more n (digits_of f (n / 10)) t (r (omega arith))

pub decimal_is : (n k : ℕ) → IsDigitCount 10 1 n k → last_digits 10 k n ≡ decimal n
unfolding decimal
decimal_is n k p = ap (λ j. last_digits 10 j n) (one_count 10 1 n k (digits_of n n) (omega arith) p (fewest n n (omega arith)))

-- ── of few digits ──

pub one_digit : (n : ℕ) → n < 10 → IsDigitCount 10 1 n 1
one_digit n h = (omega arith, omega arith, λ l. omega arith)

pub two_digits : (n : ℕ) → 10 ≤ n → n < 100 → IsDigitCount 10 1 n 2
two_digits n l h = (omega arith, omega arith, λ m. omega arith)

pub three_digits : (n : ℕ) → 100 ≤ n → n < 1000 → IsDigitCount 10 1 n 3
three_digits n l h = (omega arith, omega arith, λ m. omega arith)

pub four_digits : (n : ℕ) → 1000 ≤ n → n < 10000 → IsDigitCount 10 1 n 4
four_digits n l h = (omega arith, omega arith, λ m. omega arith)

-- ── lengths ──

pub digits_length : (b k n : ℕ) → length (last_digits b k n) ≡ k
digits_length b zero n = refl
digits_length b (suc k) n = omega (arith, length-append (last_digits b k (n / b)) (hex_digit_ascii (n % b) ∷ []), digits_length b k (n / b))

pub decimal_length : (n k : ℕ) → IsDigitCount 10 1 n k → length (decimal n) ≡ k
decimal_length n k p = rw (← decimal_is n k p) (digits_length 10 k n)

tens : (i j : ℕ) → i ≤ j → 10 ^ i ≤ 10 ^ j
tens i j h = pow-le-pow_right (lit≤ tt) h

pub decimal_short : (n : ℕ) → n < 2 ^ 64 → length (decimal n) ≤ 20
unfolding decimal
decimal_short n h =
    let p = fewest n n (omega arith) in
    rw (digits_length 10 (digits_of n n) n) (go (digits_of n n) p)
  where
    go : (k : ℕ) → IsDigitCount 10 1 n k → k ≤ 20
    go k p = at_most (leb k 20) refl
      where
        at_most : (b : Bool) → leb k 20 ≡ b → k ≤ 20
        at_most true e = leb-true k 20 e
        at_most false e =
            let j = leb-false k 20 e in
            omega (arith, p.2 (omega arith), tens 20 (k - 1) (omega arith))

-- what was shown of a count of bytes
pub shown : (k : ℕ) (l d : List ℕ) → take k l ≡ d → take k (take k l) ≡ d
shown k l d e = take-take k k l (omega arith) ∙ e
