-- What is written from an integer is the tidy word of its value, by the code that the paper gives its type; and how long that word is.
-- Assumes nothing.
use mathlib.Core.Path.{◌≡◌, refl, subst}
use Prim.Native.Nat.{ℕ, suc, ◌+◌, ◌-◌, ◌*◌, ◌/◌, ◌%◌, ◌^◌, ◌≤◌, ◌<◌}
use native.Mathlib.Nat.{suc-mul, mul-le-mul_right}
use native.Mathlib.Omega.{arith}
use borrow.Author.Tests.{lt-ltb, le-ltb}
use lib.IntN.{ℤ, pos, negsuc}
use lib.ListN.{length}
use Rattle.layout.specs.Bytes.{bytes}
use Rattle.layout.specs.Grammar.{tidy, empty, Number, num, as', As}
use Rattle.layout.proofs.laws.Numbers.{length_bytes}
use Rattle.wire.specs.Layout as L
use Rattle.wire.specs.Layout.{signed, sint, wide, int, pair, meaning, integer_width, Val, Value}
use Rattle.wire.specs.Codecs.{unsigned}
use Rattle.wire.specs.Given.{integer_word}
use Rattle.wire.specs.Typed.{Signed, IntegerType, int8, uint8, int16, uint16, int32, uint32, int64, uint64, int128, uint128, undef as undefined}
use Rattle.wire.specs.declared.given.Integer.{Integer}

signed_back : (full : ℕ) (z : ℤ) → Signed full z → (unsigned full z < full) × (signed full (unsigned full z) ≡ z)
unfolding signed
signed_back full (pos n) h = (omega arith, rw (lt-ltb (n + n) full h))
signed_back full (negsuc m) h =
    let up : full ≤ (full - suc m) + (full - suc m) = omega arith in
    let is : full - suc (full - suc m) ≡ m = omega arith in
    (omega arith, rw (le-ltb ((full - suc m) + (full - suc m)) full up, is))

signed_word : (k : ℕ) (z : ℤ) → Signed (256 ^ k) z → As (λ n. L.num (meaning (sint k) n)) (Number k) tidy (bytes k (unsigned (256 ^ k) z)) (L.num (int z))
signed_word k z h =
    let b = signed_back (256 ^ k) z h in
    subst (λ y. As (λ n. L.num (meaning (sint k) n)) (Number k) tidy (bytes k (unsigned (256 ^ k) z)) (L.num (int y))) b.1 (as' {a = unsigned (256 ^ k) z} (num b.0))

below : (b h l : ℕ) → h < b → l < b → h * b + l < b * b
below b h l a k = omega (arith, suc-mul h b, mul-le-mul_right b a)

wide_word : (h l : ℕ) → h < 2 ^ 64 → l < 2 ^ 64 → As (λ n. L.num (meaning wide n)) (Number 16) tidy (bytes 16 (h * 0x10000000000000000 + l)) (L.num (pair h l))
wide_word h l a b =
    let n = h * 0x10000000000000000 + l in
    let high : n / 0x10000000000000000 ≡ h = omega arith in
    let low : n % 0x10000000000000000 ≡ l = omega arith in
    subst (λ y. As (λ m. L.num (meaning wide m)) (Number 16) tidy (bytes 16 n) (L.num (pair h y))) low
    (subst (λ y. As (λ m. L.num (meaning wide m)) (Number 16) tidy (bytes 16 n) (L.num (pair y (n % 0x10000000000000000)))) high (as' {a = n} (num {n = n} (below 0x10000000000000000 h l a b))))

pub integer_written : {v : Integer} {t : ℕ} {x : Val} → IntegerType v t x → Value t tidy (integer_word v) x
integer_written (int8 {z} h) = signed_word 1 z h
integer_written (uint8 {n} h) = as' {a = n} (num h)
integer_written (int16 {z} h) = signed_word 2 z h
integer_written (uint16 {n} h) = as' {a = n} (num h)
integer_written (int32 {z} h) = signed_word 4 z h
integer_written (uint32 {n} h) = as' {a = n} (num h)
integer_written (int64 {z} h) = signed_word 8 z h
integer_written (uint64 {n} h) = as' {a = n} (num h)
integer_written (int128 {p} h l) = wide_word p.high p.low h l
integer_written (uint128 {p} h l) = wide_word p.high p.low h l
integer_written undefined = empty

-- its bytes are as many as its type has
pub integer-width : {v : Integer} {t : ℕ} {x : Val} → IntegerType v t x → length (integer_word v) ≡ integer_width t
unfolding integer_width
integer-width (int8 {z} h) = length_bytes 1 (unsigned (256 ^ 1) z)
integer-width (uint8 {n} h) = length_bytes 1 n
integer-width (int16 {z} h) = length_bytes 2 (unsigned (256 ^ 2) z)
integer-width (uint16 {n} h) = length_bytes 2 n
integer-width (int32 {z} h) = length_bytes 4 (unsigned (256 ^ 4) z)
integer-width (uint32 {n} h) = length_bytes 4 n
integer-width (int64 {z} h) = length_bytes 8 (unsigned (256 ^ 8) z)
integer-width (uint64 {n} h) = length_bytes 8 n
integer-width (int128 {p} h l) = length_bytes 16 (p.high * 0x10000000000000000 + p.low)
integer-width (uint128 {p} h l) = length_bytes 16 (p.high * 0x10000000000000000 + p.low)
integer-width undefined = refl
