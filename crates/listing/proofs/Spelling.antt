-- Digits in two parts, and the stores that write them.
-- Assumes nothing.
use Rattle.std.proofs.Common.{◌≡◌, ℕ, zero, suc, ◌+◌, ◌-◌, ◌*◌, ◌/◌, ◌%◌, ◌^◌, ◌<◌, ◌≤◌, List, [], ◌∷◌, ◌++◌, length, set, sym, refl, ap, ◌∙◌, append_assoc, append-nil, add-zero, add-suc, mod-lt, suc-add, pow-suc, zero-add, div-one, arith, lit<, length-append, lt-ltb}
use native.Mathlib.Nat.{pow-succ', one-le-pow, div-div-eq-div-mul}
use lib.Arith.{digits_div, digits_mod, mod-mul}
use lib.Seq.{sets, set_comm}
use Rattle.io.specs.Digits.{last_digits as digits, hex_digit_ascii, IsDigitCount}
use Rattle.layout.specs.Written.{put, Put}
use Rattle.text.specs.Number.{digits_of, decimal}
use Rattle.text.proofs.laws.Numerals.{more, fewest, decimal_is, digits_length}

-- ── from the last to the first ──

-- the last byte of a row may be stored first
put_last : (out : List ℕ) (at : ℕ) (bs : List ℕ) (b : ℕ) → put out at (bs ++ b ∷ []) ≡ put (set out (at + length bs) b) at bs
unfolding put
put_last out at [] b = rw add-zero
put_last out at (x ∷ bs) b =
    put_last (set out at x) (suc at) bs b
    ∙ ap (λ l. sets l (suc at) bs) (ap (λ k. set (set out at x) k b) (suc-add at (length bs) ∙ sym (add-suc at (length bs))) ∙ set_comm out at (at + suc (length bs)) x b (λ e. omega arith))

ten_glyph : (d : ℕ) → d < 10 → hex_digit_ascii d ≡ 48 + d
ten_glyph d h = rw (lt-ltb d 10 h)

-- one digit
spelled_one : (out : List ℕ) (at k n : ℕ) → put out at (digits 10 (suc k) n) ≡ put (set out (at + k) (48 + n % 10)) at (digits 10 k (n / 10))
spelled_one out at k n = put_last out at (digits 10 k (n / 10)) (hex_digit_ascii (n % 10)) ∙ rw (digits_length 10 k (n / 10), ten_glyph (n % 10) (omega arith))

-- two digits of a number of two
spelled_two : (out : List ℕ) (at k n : ℕ) → put out at (digits 10 (suc (suc k)) n) ≡ put (set (set out (at + k + 1) (48 + n % 100 % 10)) (at + k) (48 + n % 100 / 10)) at (digits 10 k (n / 100))
spelled_two out at k n =
    let a : at + suc k ≡ at + k + 1 = omega arith in
    let ten : 0 < 10 = lit< tt in
    let two : n % 100 ≡ n / 10 % 10 * 10 + n % 10 = mod-mul n ten ten in
    let b : n % 10 ≡ n % 100 % 10 = sym (ap (λ x. x % 10) two ∙ digits_mod (n / 10 % 10) (mod-lt n ten)) in
    let c : n / 10 % 10 ≡ n % 100 / 10 = sym (ap (λ x. x / 10) two ∙ digits_div (n / 10 % 10) (mod-lt n ten)) in
    let d : n / 10 / 10 ≡ n / 100 = omega arith in
    spelled_one out at (suc k) n ∙ rw (a, b) (spelled_one (set out (at + k + 1) (48 + n % 100 % 10)) at k (n / 10) ∙ rw (c, d))

-- ── digits in two parts ──

-- the last digits are those of what is left by the power of ten
last_digits : (k n : ℕ) → digits 10 k (n % 10 ^ k) ≡ digits 10 k n
last_digits zero n = refl
last_digits (suc k) n =
    let ten : 0 < 10 = lit< tt in
    let two : n % 10 ^ suc k ≡ n / 10 % 10 ^ k * 10 + n % 10 = rw (pow-suc 10 k) (mod-mul n (one-le-pow k 10 ten) ten) in
    let b : n % 10 ^ suc k % 10 ≡ n % 10 = ap (λ x. x % 10) two ∙ digits_mod (n / 10 % 10 ^ k) (mod-lt n ten) in
    let c : n % 10 ^ suc k / 10 ≡ n / 10 % 10 ^ k = ap (λ x. x / 10) two ∙ digits_div (n / 10 % 10 ^ k) (mod-lt n ten) in
    rw (b, c, last_digits k (n / 10))

div-tens : (j n : ℕ) → n / 10 / 10 ^ j ≡ n / 10 ^ suc j
div-tens j n = div-div-eq-div-mul n 10 (10 ^ j) ∙ ap (λ x. n / x) (sym (pow-succ' 10 j))

-- the first of them, and the last j
parted : (k j n : ℕ) → digits 10 (k + j) n ≡ digits 10 k (n / 10 ^ j) ++ digits 10 j n
parted k zero n = simp (add-zero, div-one, append-nil)
parted k (suc j) n =
    rw (add-suc k j)
    (ap (λ l. l ++ hex_digit_ascii (n % 10) ∷ []) (parted k j (n / 10)) ∙ rw (div-tens j n) (append_assoc (digits 10 k (n / 10 ^ suc j)) (digits 10 j (n / 10)) (hex_digit_ascii (n % 10) ∷ [])))

pub in_parts : (k j n : ℕ) → digits 10 (k + j) n ≡ digits 10 k (n / 10 ^ j) ++ digits 10 j (n % 10 ^ j)
in_parts k j n = parted k j n ∙ ap (λ l. digits 10 k (n / 10 ^ j) ++ l) (sym (last_digits j n))

-- a number that has more digits than j has j more than what is left without them
more_by : (j n k : ℕ) → 10 ^ j ≤ n → IsDigitCount 10 1 (n / 10 ^ j) k → IsDigitCount 10 1 n (j + k)
more_by zero n k h p = rw (zero-add k) (rw (div-one n) at p)
more_by (suc j) n k h p =
    let t = pow-suc 10 j in
    let o = one-le-pow j 10 (lit< tt) in
    rw (suc-add j k) (more n (j + k) (omega arith) (more_by j (n / 10) k (omega arith) (rw (div-tens j n) p)))

-- its decimal is that of what is left, and the last j digits
pub decimal_parts : (j n : ℕ) → 10 ^ j ≤ n → decimal n ≡ decimal (n / 10 ^ j) ++ digits 10 j (n % 10 ^ j)
decimal_parts j n h =
    let m = n / 10 ^ j in
    let k = digits_of m m in
    let p = fewest m m (omega arith) in
    let e : j + k ≡ k + j = omega arith in
    sym (decimal_is n (j + k) (more_by j n k h p)) ∙ rw e (in_parts k j n ∙ ap (λ l. l ++ digits 10 j (n % 10 ^ j)) (decimal_is m k p))

pub parts_length : (j n : ℕ) → 10 ^ j ≤ n → length (decimal n) ≡ length (decimal (n / 10 ^ j)) + j
parts_length j n h = ap length (decimal_parts j n h) ∙ length-append (decimal (n / 10 ^ j)) (digits 10 j (n % 10 ^ j)) ∙ ap (λ k. length (decimal (n / 10 ^ j)) + k) (digits_length 10 j (n % 10 ^ j))

-- ── stores ──

pub one_put : (out : List ℕ) (at n : ℕ) → Put out at (digits 10 1 n) (set out at (48 + n % 10)) (at + 1)
unfolding put
one_put out at n = record { bytes = sym (simp add-zero at (spelled_one out at 0 n)); place = refl }

-- both bytes as one number
pub two_put : (out : List ℕ) (at n : ℕ) → let b = 12336 + 256 * (n % 100) - 2559 * (n % 100 / 10) in Put out at (digits 10 2 n) (set (set out (at + 1) (b / 256)) at (b % 256)) (at + 2)
unfolding put
two_put out at n =
    let b = 12336 + 256 * (n % 100) - 2559 * (n % 100 / 10) in
    let h : b / 256 ≡ 48 + n % 100 % 10 = omega arith in
    let l : b % 256 ≡ 48 + n % 100 / 10 = omega arith in
    record { bytes = rw (h, l) (sym (simp add-zero at (spelled_two out at 0 n))); place = refl }
