-- What `ptp_write_integer` writes is the tidy word of the value that it is given, by the code that the paper gives its type; and 12 exactly for the other codes.
-- Assumes nothing.
use Rattle.std.proofs.Common.{◌≡◌, ℕ, ◌+◌, ◌-◌, ◌*◌, ◌^◌, ◌<◌, ◌≤◌, Bool, true, false, eqb, leb, ◌⊎◌, ◌↔◌, List, ℤ, pos, negsuc, sym, refl, ap, ◌∙◌, inl, inr, append-nil, arith, lit≤, eqb-true, le-leb, leb-false, leb-true}
use borrow.Author.Tests.{eqb-false}
use lib.Signed.{mag}
use Rattle.layout.specs.Answer.{bare, pick}
use Rattle.layout.specs.Bytes.{bytes}
use Rattle.layout.specs.Grammar.{tidy}
use Rattle.layout.specs.Refusals.{PLACE}
use Rattle.layout.specs.Written.{says, no}
use Rattle.layout.proofs.laws.Numbers.{zero_one}
use Rattle.wire.specs.Codecs.{unsigned}
use Rattle.wire.specs.Given.{integer_word}
use Rattle.wire.specs.Layout.{int, nat, pair, Val, num, Value}
use Rattle.wire.specs.Typed.{Signed, IntegerType, int8, uint8, int16, uint16, int32, uint32, int64, uint64, int128, uint128, undef}
use Rattle.wire.specs.declared.given.Bits.{Bits}
use Rattle.wire.specs.declared.given.Integer.{Integer}
use Rattle.wire.proofs.laws.Integers.{integer_written}
use Rattle.wire.proofs.laws.Numbered.{unsigned_word, signed_word, pair_word}
use Rattle.abi.specs.Integers.{integer_width, integer_bytes, integer_said, InWords, above, below, plain, halves}
use Rattle.abi.proofs.Integers.{said_none, said_bytes}

-- ── its bytes ──

-- one word gives them all, up to 64 bits
short : (w low high : ℕ) → w ≤ 8 → integer_bytes w low high ≡ bytes w low
unfolding integer_bytes bytes
short w low high h = let none : w - 8 ≡ 0 = omega arith in rw (le-leb w 8 h, none, append-nil (bytes w low))

-- a number of w bytes has the low bytes of its word
smaller : (full : ℕ) (z : ℤ) → 0 < full → Signed full z → mag z < full
smaller full (pos n) some h = omega arith
smaller full (negsuc m) some h = omega arith

low_bytes : (w high : ℕ) (z : ℤ) → w ≤ 8 → 0 < 256 ^ w → Signed (256 ^ w) z → integer_bytes w (unsigned (2 ^ 64) z) high ≡ bytes w (unsigned (256 ^ w) z)
low_bytes w high z h some k =
    let b : Bits = record { front = w; low = unsigned (2 ^ 64) z; back = 0; high = 0 } in
    short w (unsigned (2 ^ 64) z) high h ∙ sym (unsigned_word b w refl refl (unsigned (2 ^ 64) z) refl) ∙ signed_word b w refl refl z h (smaller (256 ^ w) z some k) refl

-- ── what is said ──

signed_said : (w code high : ℕ) (z : ℤ) → integer_width code ≡ w → 0 < w → w ≤ 8 → 0 < 256 ^ w → Signed (256 ^ w) z → integer_said code (unsigned (2 ^ 64) z) high ≡ says (bytes w (unsigned (256 ^ w) z))
signed_said w code high z e some h full k =
    said_bytes code (unsigned (2 ^ 64) z) high (λ f. omega (arith, e, f)) ∙ ap (λ n. says (integer_bytes n (unsigned (2 ^ 64) z) high)) e ∙ ap says (low_bytes w high z h full k)

plain_said : (w code n high : ℕ) → integer_width code ≡ w → 0 < w → w ≤ 8 → integer_said code n high ≡ says (bytes w n)
plain_said w code n high e some h = said_bytes code n high (λ f. omega (arith, e, f)) ∙ ap (λ m. says (integer_bytes m n high)) e ∙ ap says (short w n high h)

wide_said : (code low high : ℕ) → integer_width code ≡ 16 → low < 2 ^ 64 → integer_said code low high ≡ says (bytes 16 (high * 0x10000000000000000 + low))
unfolding integer_bytes
wide_said code low high e h =
    said_bytes code low high (λ f. omega (arith, e, f)) ∙ ap (λ n. says (integer_bytes n low high)) e ∙ ap says (pair_word high low h)

-- ── by the words ──

signed_words : {z : ℤ} {low high : ℕ} → InWords (num (int z)) low high → low ≡ unsigned (2 ^ 64) z
signed_words above = refl
signed_words below = refl

plain_words : {n low high : ℕ} → InWords (num (nat n)) low high → low ≡ n
plain_words plain = refl

both_words : {h l low high : ℕ} → InWords (num (pair h l)) low high → (low ≡ l) × (high ≡ h)
both_words halves = (refl, refl)

module _ {low high : ℕ} where
  signed_given : (w code : ℕ) {z : ℤ} → InWords (num (int z)) low high → integer_width code ≡ w → 0 < w → w ≤ 8 → 0 < 256 ^ w → Signed (256 ^ w) z → integer_said code low high ≡ says (bytes w (unsigned (256 ^ w) z))
  signed_given w code {z} g e some h full k = ap (λ l. integer_said code l high) (signed_words g) ∙ signed_said w code high z e some h full k

  plain_given : (w code : ℕ) {n : ℕ} → InWords (num (nat n)) low high → integer_width code ≡ w → 0 < w → w ≤ 8 → integer_said code low high ≡ says (bytes w n)
  plain_given w code {n} g e some h = ap (λ l. integer_said code l high) (plain_words g) ∙ plain_said w code n high e some h

  wide_given : (code : ℕ) {h l : ℕ} → InWords (num (pair h l)) low high → integer_width code ≡ 16 → l < 2 ^ 64 → integer_said code low high ≡ says (bytes 16 (h * 0x10000000000000000 + l))
  wide_given code {h} {l} g e k = let i = both_words g in ap (λ m. integer_said code m high) i.0 ∙ ap (λ m. integer_said code l m) i.1 ∙ wide_said code l h e k

  word_said : {v : Integer} {t : ℕ} {x : Val} → IntegerType v t x → InWords x low high → integer_said t low high ≡ says (integer_word v)
  unfolding integer_width
  word_said (int8 h) g = signed_given 1 0x0001 g refl (lit≤ tt) (lit≤ tt) (lit≤ tt) h
  word_said (uint8 h) g = plain_given 1 0x0002 g refl (lit≤ tt) (lit≤ tt)
  word_said (int16 h) g = signed_given 2 0x0003 g refl (lit≤ tt) (lit≤ tt) (lit≤ tt) h
  word_said (uint16 h) g = plain_given 2 0x0004 g refl (lit≤ tt) (lit≤ tt)
  word_said (int32 h) g = signed_given 4 0x0005 g refl (lit≤ tt) (lit≤ tt) (lit≤ tt) h
  word_said (uint32 h) g = plain_given 4 0x0006 g refl (lit≤ tt) (lit≤ tt)
  word_said (int64 h) g = signed_given 8 0x0007 g refl (lit≤ tt) (lit≤ tt) (lit≤ tt) h
  word_said (uint64 h) g = plain_given 8 0x0008 g refl (lit≤ tt) (lit≤ tt)
  word_said (int128 h l) g = wide_given 0x0009 g refl l
  word_said (uint128 h l) g = wide_given 0x000A g refl l
  word_said undef g = elim g [ ]

  -- the tidy word of the value
  pub integer_given : {v : Integer} {t : ℕ} {x : Val} → IntegerType v t x → InWords x low high → (w : List ℕ) × (integer_said t low high ≡ says w) × Value t tidy w x
  integer_given {v} i g = (integer_word v, word_said i g, integer_written i)

-- ── 12 ──

no_width : (code : ℕ) → integer_width code ≡ 0 ↔ ((code < 1) ⊎ (10 < code))
unfolding integer_width
no_width code = go (eqb code 0) refl (leb code 2) refl (leb code 4) refl (leb code 6) refl (leb code 8) refl (leb code 10) refl
  where
    inside : (code ≡ 0 → ⊥) → code ≤ 10 → (code < 1) ⊎ (10 < code) → ⊥
    inside some h (inl k) = omega arith
    inside some h (inr k) = omega arith

    go : (a : Bool) → eqb code 0 ≡ a → (b : Bool) → leb code 2 ≡ b → (c : Bool) → leb code 4 ≡ c → (d : Bool) → leb code 6 ≡ d → (e : Bool) → leb code 8 ≡ e → (f : Bool) → leb code 10 ≡ f
        → ◌≡◌ {A = ℕ} (pick a 0 (pick b 1 (pick c 2 (pick d 4 (pick e 8 (pick f 16 0)))))) 0 ↔ ((code < 1) ⊎ (10 < code))
    go true i b j c k d l e m f n = (λ _. inl (omega (arith, eqb-true code 0 i)), λ _. refl)
    go false i true j c k d l e m f n = (λ z. absurd (omega arith), λ o. absurd (inside (eqb-false code 0 i) (omega (arith, leb-true code 2 j)) o))
    go false i false j true k d l e m f n = (λ z. absurd (omega arith), λ o. absurd (inside (eqb-false code 0 i) (omega (arith, leb-true code 4 k)) o))
    go false i false j false k true l e m f n = (λ z. absurd (omega arith), λ o. absurd (inside (eqb-false code 0 i) (omega (arith, leb-true code 6 l)) o))
    go false i false j false k false l true m f n = (λ z. absurd (omega arith), λ o. absurd (inside (eqb-false code 0 i) (omega (arith, leb-true code 8 m)) o))
    go false i false j false k false l false m true n = (λ z. absurd (omega arith), λ o. absurd (inside (eqb-false code 0 i) (leb-true code 10 n) o))
    go false i false j false k false l false m false n = (λ _. inr (leb-false code 10 n), λ _. refl)

-- exactly for the codes that are no integer's
pub integer_12 : (code low high : ℕ) → integer_said code low high ≡ no (bare PLACE) ↔ ((code < 1) ⊎ (10 < code))
integer_12 code low high = (λ e. go (eqb (integer_width code) 0) refl e, λ o. said_none code low high ((no_width code).1 o))
  where
    go : (b : Bool) → eqb (integer_width code) 0 ≡ b → integer_said code low high ≡ no (bare PLACE) → (code < 1) ⊎ (10 < code)
    go true i e = (no_width code).0 (eqb-true (integer_width code) 0 i)
    go false i e = let f = said_bytes code low high (eqb-false (integer_width code) 0 i) in zero_one (cc)
