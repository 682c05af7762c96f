-- The words of what a writer is given: an integer's low bytes, a string's units, an array's items.
-- Assumes nothing.
use mathlib.Core.Path.{◌≡◌, refl, ap, sym, ◌∙◌, subst}
use mathlib.Core.Bool.{true, false}
use mathlib.Core.List.{List, [], ◌∷◌, ◌++◌, append-nil}
use Prim.Native.Nat.{ℕ, zero, suc, ◌+◌, ◌-◌, ◌*◌, ◌/◌, ◌%◌, ◌^◌, ◌≤◌, ◌<◌}
use native.Mathlib.Nat.{one-le-pow, pow-succ', mul_comm, mul_assoc, div-add-mod', suc-mul, not-suc-le-zero}
use native.Mathlib.Numerals.{add-one}
use native.Mathlib.Omega.{arith}
use borrow.Author.Tests.{eq-eqb, ne_eqb, le-leb, lt-leb, le-ltb}
use lib.Dec.{lit≤, ltb}
use lib.IntN.{ℤ, pos, negsuc, ◌-ℤ◌}
use lib.ListN.{length, drop, get_or, length-append, drop_of_length-le}
use lib.Seq.{drop-cons}
use lib.Pow.{pow-add}
use lib.Signed.{mag, lt_z}
use mir.Syntax.{w64}
use mir.Val.{SFits, to_z, of_z}
use mir.ValLaws.{to_z-of_z}
use Rattle.layout.specs.Answer.{bare}
use Rattle.layout.specs.Bytes.{Bytes, bytes, cells}
use Rattle.layout.specs.Codec.{celled}
use Rattle.layout.specs.Grammar.{Number}
use Rattle.layout.specs.Written.{says, no}
use Rattle.layout.proofs.laws.Make.{cells_all, cells_format}
use Rattle.layout.proofs.laws.Numbers.{length_bytes, zero_one}
use Rattle.layout.proofs.laws.Single.{single_number, single_repeat}
use Rattle.layout.specs.Refusals.{TEXT, COUNT}
use Rattle.wire.specs.declared.given.Bits.{Bits}
use Rattle.wire.specs.Layout.{paired}
use Rattle.wire.specs.Codecs.{unsigned, array}
use Rattle.wire.specs.Given.{integer_bits, text_said, units_word, items_said}
use Rattle.wire.specs.Tidy.{spelled}
use Rattle.wire.proofs.Spelled.{length_cells, spelled_none, spelled_some}

-- ── integers ──

-- what lies above k bytes does not show in them
bytes_add : (k n m : ℕ) → bytes k (n + m * 256 ^ k) ≡ bytes k n
unfolding bytes
bytes_add zero n m = refl
bytes_add (suc k) n m =
    let above : m * 256 ^ suc k ≡ 256 * (m * 256 ^ k) = rw (pow-succ' 256 k, ← mul_assoc m 256 (256 ^ k), mul_comm m 256, mul_assoc 256 m (256 ^ k)) in
    let low : (n + m * 256 ^ suc k) % 256 ≡ n % 256 = rw above (omega arith) in
    let high : (n + m * 256 ^ suc k) / 256 ≡ n / 256 + m * 256 ^ k = rw above (omega arith) in
    rw (low, high, bytes_add k (n / 256) m)

-- the low bytes of 64 bits are those of a narrower two's complement
low_bytes : (w : ℕ) (z : ℤ) → w ≤ 8 → mag z < 256 ^ w → bytes w (unsigned (2 ^ 64) z) ≡ bytes w (unsigned (256 ^ w) z)
low_bytes w (pos n) h k = refl
low_bytes w (negsuc m) h k = go (256 ^ (8 - w)) refl (one-le-pow (8 - w) 256 (lit≤ tt))
  where
    go : (q : ℕ) → 256 ^ (8 - w) ≡ q → 1 ≤ q → bytes w (2 ^ 64 - suc m) ≡ bytes w (256 ^ w - suc m)
    go zero e l = absurd (not-suc-le-zero l)
    go (suc q) e l =
        let eight : w + (8 - w) ≡ 8 = omega arith in
        let whole : 256 ^ w * suc q ≡ 2 ^ 64 = ap (λ x. 256 ^ w * x) (sym e) ∙ sym (pow-add 256 w (8 - w)) ∙ ap (λ x. 256 ^ x) eight in
        let split : suc q * 256 ^ w ≡ q * 256 ^ w + 256 ^ w = suc-mul q (256 ^ w) in
        let sum : 2 ^ 64 - suc m ≡ (256 ^ w - suc m) + q * 256 ^ w = omega (arith, sym whole ∙ mul_comm (256 ^ w) (suc q)) in
        ap (bytes w) sum ∙ bytes_add w (256 ^ w - suc m) q

module _ (b : Bits) (w : ℕ) (f : b.front ≡ w) (e : b.back ≡ 0) where
  pub unsigned_word : (n : ℕ) → b.low ≡ n → integer_bits b ≡ bytes w n
  unfolding bytes
  unsigned_word n l = rw (f, l, e, append-nil)

  pub signed_word : (z : ℤ) → w ≤ 8 → mag z < 256 ^ w → b.low ≡ unsigned (2 ^ 64) z → integer_bits b ≡ bytes w (unsigned (256 ^ w) z)
  signed_word z h k l = unsigned_word (unsigned (2 ^ 64) z) l ∙ low_bytes w z h k

minus_one : (m : ℕ) → negsuc 0 -ℤ negsuc m ≡ pos m
minus_one m =
    let not-less : ltb (suc m) 1 ≡ false = le-ltb (suc m) 1 (omega arith) in
    let less : suc m - 1 ≡ m = omega arith in
    rw (not-less, less)

-- a number of 64 bits that is below 0, and what is left of it above -1
module _ (z : ℤ) (fits : SFits w64 z) where
  pub below : lt_z (to_z w64 (of_z w64 z)) (pos 0) ≡ true → (m : ℕ) × (z ≡ negsuc m) × (negsuc 0 -ℤ to_z w64 (of_z w64 z) ≡ pos m) × (m < 2 ^ 63)
  below e = subst (λ y. (m : ℕ) × (z ≡ negsuc m) × (negsuc 0 -ℤ y ≡ pos m) × (m < 2 ^ 63)) (sym (to_z-of_z w64 z fits)) (go z (subst (λ y. lt_z y (pos 0) ≡ true) (to_z-of_z w64 z fits) e) fits.sfits)
    where
      go : (y : ℤ) → lt_z y (pos 0) ≡ true → mag y < 2 ^ 63 → (m : ℕ) × (y ≡ negsuc m) × (negsuc 0 -ℤ y ≡ pos m) × (m < 2 ^ 63)
      go (pos n) e h = let f : ltb n 0 ≡ false = le-ltb n 0 (omega arith) in zero_one (cc)
      go (negsuc m) e h = (m, refl, minus_one m, h)

  pub above : lt_z (to_z w64 (of_z w64 z)) (pos 0) ≡ false → (n : ℕ) × (z ≡ pos n) × (n < 2 ^ 63)
  above e = go z (subst (λ y. lt_z y (pos 0) ≡ false) (to_z-of_z w64 z fits) e) fits.sfits
    where
      go : (y : ℤ) → lt_z y (pos 0) ≡ false → mag y < 2 ^ 63 → (n : ℕ) × (y ≡ pos n) × (n < 2 ^ 63)
      go (pos n) e h = (n, refl, h)
      go (negsuc m) e h = zero_one (cc)

-- two halves
bytes_both : (j k a b : ℕ) → a < 256 ^ j → bytes j a ++ bytes k b ≡ bytes (j + k) (b * 256 ^ j + a)
unfolding bytes
bytes_both zero k a b h =
    let none : 0 + k ≡ k = omega arith in
    let same : b * 256 ^ 0 + a ≡ b = omega arith in
    rw (none, same)
bytes_both (suc j) k a b h =
    let more : suc j + k ≡ suc (j + k) = omega arith in
    let up : b * 256 ^ suc j ≡ 256 * (b * 256 ^ j) = rw (pow-succ' 256 j, ← mul_assoc b 256 (256 ^ j), mul_comm b 256, mul_assoc 256 b (256 ^ j)) in
    let low : (b * 256 ^ suc j + a) % 256 ≡ a % 256 = rw up (omega arith) in
    let high : (b * 256 ^ suc j + a) / 256 ≡ b * 256 ^ j + a / 256 = rw up (omega arith) in
    let ih = bytes_both j k (a / 256) b (omega (arith, pow-succ' 256 j)) in
    rw (more, low, high) (ap (λ l. a % 256 ∷ l) ih)

pub pair_word : (high low : ℕ) → low < 2 ^ 64 → bytes 8 low ++ bytes 8 high ≡ bytes 16 (high * 0x10000000000000000 + low)
pair_word high low h = bytes_both 8 8 low high h

-- ── strings ──

pub units_none : (us : List ℕ) (i : ℕ) → length us ≤ i → units_word (drop i us) ≡ []
unfolding units_word
units_none us i h = rw (drop_of_length-le us h)

pub units_step : (us : List ℕ) (i : ℕ) → i < length us → units_word (drop i us) ≡ bytes 2 (get_or us i 0) ++ units_word (drop (i + 1) us)
unfolding units_word
units_step us i h = rw (add-one, drop-cons us i 0 h)

pub units_size : (us : List ℕ) → length (units_word us) ≡ length us * 2
unfolding units_word
units_size [] = refl
units_size (u ∷ us) = length-append (bytes 2 u) ((celled 2 (length us)).write us) ∙ omega (arith, length_bytes 2 u, units_size us, suc-mul (length us) 2)

pub given_none : (us : List ℕ) → length us ≡ 0 → spelled us ≡ bytes 1 0
given_none = spelled_none

pub given_some : (us : List ℕ) → (length us ≡ 0 → ⊥) → spelled us ≡ bytes 1 (length us + 1) ++ units_word us ++ bytes 2 0
unfolding units_word
given_some us h = spelled_some us (length us) refl (omega arith)

pub some_size : (us : List ℕ) → (length us ≡ 0 → ⊥) → length (spelled us) ≡ length us * 2 + 3
some_size us h =
    ap length (given_some us h) ∙ length-append (bytes 1 (length us + 1) ++ units_word us) (bytes 2 0)
    ∙ omega (arith, length-append (bytes 1 (length us + 1)) (units_word us), length_bytes 1 (length us + 1), units_size us, length_bytes 2 0)

pub given_size : (us : List ℕ) (r : ℕ) → (length us ≡ 0 → r ≡ 1) × ((length us ≡ 0 → ⊥) → r ≡ length us * 2 + 3) → r ≡ length (spelled us)
given_size us r h = go (length us) refl
  where
    go : (n : ℕ) → length us ≡ n → r ≡ length (spelled us)
    go zero e = omega (arith, h.0 e, ap length (given_none us e), length_bytes 1 0)
    go (suc n) e = let some : length us ≡ 0 → ⊥ = λ z. omega arith in h.1 some ∙ sym (some_size us some)

module _ (us : List ℕ) where
  pub said_unpaired : paired us ≡ false → text_said us ≡ no (bare TEXT)
  unfolding text_said
  said_unpaired e = rw e

  module _ (e : paired us ≡ true) where
    pub said_long : 254 < length us → text_said us ≡ no (bare COUNT)
    unfolding text_said
    said_long h = rw (e, lt-leb (length us) 254 h)

    pub said_text : length us ≤ 254 → text_said us ≡ says (spelled us)
    unfolding text_said spelled
    said_text h = rw (e, le-leb (length us) 254 h)

-- ── arrays ──

-- items that stand in bytes are written as they stand
pub items_stand : (w n : ℕ) (bs : List ℕ) → Bytes bs → length bs ≡ n * w → (array w).write (cells w n bs) ≡ bytes 4 n ++ bs
items_stand w n bs h e =
    let g = cells_all w n bs h e in
    let f : bs ≡ (celled w n).write (cells w n bs) = (cells_format w n).one (single_repeat (Number w) n (single_number w) bs (cells w n bs) g) in
    rw (length_cells w n bs, ← f)

module _ (w : ℕ) (bs : List ℕ) (some : 0 < w) where
  pub said_part : (length bs % w ≡ 0 → ⊥) → items_said w bs ≡ no (bare COUNT)
  unfolding items_said
  said_part h = rw (ne_eqb (length bs % w) 0 h)

  module _ (whole : length bs % w ≡ 0) where
    pub said_many : 0xFFFFFFFF < length bs / w → items_said w bs ≡ no (bare COUNT)
    unfolding items_said
    said_many h = rw (eq-eqb (length bs % w) 0 whole, lt-leb (length bs / w) 0xFFFFFFFF h)

    pub said_items : Bytes bs → length bs / w ≤ 0xFFFFFFFF → items_said w bs ≡ says (bytes 4 (length bs / w) ++ bs)
    unfolding items_said
    said_items b h =
        let e : length bs ≡ length bs / w * w = sym (div-add-mod' (length bs) w) ∙ omega arith in
        rw (eq-eqb (length bs % w) 0 whole, le-leb (length bs / w) 0xFFFFFFFF h, items_stand w (length bs / w) bs b e)
