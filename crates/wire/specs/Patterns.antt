-- UTF-8 and UTF-16 by their bit patterns and ranges, as RFC 3629 and RFC 2781 have them: no encoder stands here. A code point has one spelling, the shortest.
-- Assumes nothing.
use Rattle.std.specs.Prelude.{◌≡◌, ◌⊎◌, List, [], ◌∷◌, ◌++◌, ℕ, ◌+◌, ◌*◌, ◌^◌, ◌≤◌, ◌<◌}
use Rattle.layout.specs.Format.{Stands}
use Rattle.layout.specs.Grammar.{loose}
use Rattle.wire.specs.Layout.{Text}

-- ── UTF-8 ──

-- the bytes of a code point: the bits x, y, z, v from the highest on. (The halves of pairs, which RFC 3629 leaves out, are no code points: `Utf16` gives none.)
pub data Utf8 (c : ℕ) : List ℕ → Type 0 where
  -- 0xxxxxxx
  one_byte : c ≤ 0x7F → Utf8 c (c ∷ [])
  -- 110xxxxx 10yyyyyy
  two_bytes : (x y : ℕ) → x < 32 → y < 64 → c ≡ x * 64 + y → 0x80 ≤ c → c ≤ 0x7FF → Utf8 c ((192 + x) ∷ (128 + y) ∷ [])
  -- 1110xxxx 10yyyyyy 10zzzzzz
  three_bytes : (x y z : ℕ) → x < 16 → y < 64 → z < 64 → c ≡ (x * 64 + y) * 64 + z → 0x800 ≤ c → c ≤ 0xFFFF → Utf8 c ((224 + x) ∷ (128 + y) ∷ (128 + z) ∷ [])
  -- 11110xxx 10yyyyyy 10zzzzzz 10vvvvvv
  four_bytes : (x y z v : ℕ) → x < 8 → y < 64 → z < 64 → v < 64 → c ≡ ((x * 64 + y) * 64 + z) * 64 + v → 0x10000 ≤ c → c ≤ 0x10FFFF → Utf8 c ((240 + x) ∷ (128 + y) ∷ (128 + z) ∷ (128 + v) ∷ [])

-- of code points, one behind the other
pub data Utf8All : List ℕ → List ℕ → Type 0 where
  no_point : Utf8All [] []
  point : {c : ℕ} {cs u v : List ℕ} → Utf8 c u → Utf8All cs v → Utf8All (c ∷ cs) (u ++ v)

-- ── UTF-16 ──

-- the code points of units: 110110xxxxxxxxxx 110111yyyyyyyyyy is the one of 0x10000 and the bits x, y; any other unit is one by itself, and no half of a pair
pub data Utf16 : List ℕ → List ℕ → Type 0 where
  no_unit : Utf16 [] []
  unit : {u : ℕ} {us cs : List ℕ} → (u < 0xD800) ⊎ (0xDFFF < u) → Utf16 us cs → Utf16 (u ∷ us) (u ∷ cs)
  pair : {u v c : ℕ} {us cs : List ℕ} (x y : ℕ) → x < 1024 → y < 1024 → u ≡ 0xD800 + x → v ≡ 0xDC00 + y → c ≡ 0x10000 + (x * 1024 + y) → Utf16 us cs → Utf16 (u ∷ v ∷ us) (c ∷ cs)

-- units of 16 bits
abbrev pub Units16 : List ℕ → Type 0
Units16 [] = Unit {0}
Units16 (u ∷ us) = (u < 2 ^ 16) × Units16 us

-- ── a string's UTF-8 ──

-- the bytes w spell the code points of the units us
pub record Spelt8 (us w : List ℕ) : Type 0 where
  pub points : List ℕ
  pub units : Utf16 us points
  pub bytes : Utf8All points w

-- a string stands in s from a place up to n, and w is its UTF-8
pub record Reads8 (s : List ℕ) (at : ℕ) (w : List ℕ) (n : ℕ) : Type 0 where
  pub word : List ℕ
  pub units : List ℕ
  pub there : Stands s at n word
  pub is : Text loose word units
  pub bytes : Spelt8 units w
