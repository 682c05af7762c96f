-- Strings in UTF-8: the code points of paired UTF-16 units, each in 1 to 4 bytes.
-- Assumes nothing.
use Rattle.std.specs.Prelude.{◌≡◌, true, List, [], ◌∷◌, ◌++◌, ℕ, ◌+◌, ◌-◌, ◌*◌, ◌/◌, ◌%◌, ◌≤◌, ◌<◌, eqb, ltb, length, drop}
use Rattle.layout.specs.Answer.{Reader, pick, means}
use Rattle.layout.specs.Bytes.{bytes, cells}
use Rattle.wire.specs.Layout.{high, paired}
use Rattle.wire.specs.Places.{text_at, items_in}
use Rattle.wire.specs.declared.encode.Point.{Point}
use Rattle.wire.specs.declared.encode.Word.{Word}

-- UTF-16: a high surrogate and the low one after it are one code point, of the ten low bits of each; every other unit is one by itself
abbrev pub pair_point : ℕ → ℕ → ℕ
pair_point u v = 0x10000 + u % 1024 * 1024 + v % 1024

unfoldable pub points : List ℕ → List ℕ
points [] = []
points (u ∷ []) = u ∷ []
points (u ∷ v ∷ us) = pick (high u) (pair_point u v ∷ points us) (u ∷ points (v ∷ us))

-- UTF-8: seven bits in one byte; then six in each byte but the first, which says how many there are
unfoldable pub encoded : ℕ → List ℕ
encoded c =
    pick (ltb c 0x80) (c ∷ [])
    (pick (ltb c 0x800) ((0xC0 + c / 64) ∷ (0x80 + c % 64) ∷ [])
    (pick (ltb c 0x10000) ((0xE0 + c / 4096) ∷ (0x80 + c / 64 % 64) ∷ (0x80 + c % 64) ∷ [])
    ((0xF0 + c / 262144) ∷ (0x80 + c / 4096 % 64) ∷ (0x80 + c / 64 % 64) ∷ (0x80 + c % 64) ∷ [])))

unfoldable pub encoded_all : List ℕ → List ℕ
encoded_all [] = []
encoded_all (c ∷ cs) = encoded c ++ encoded_all cs

unfoldable pub utf8 : List ℕ → List ℕ
utf8 us = encoded_all (points us)

-- the string at a place
unfoldable pub utf8_at : Reader (List ℕ)
utf8_at s at = means (λ p. utf8 (items_in 2 s p)) (text_at s at)

-- ── inside: units that are small ──

abbrev pub NoneAbove : ℕ → List ℕ → Type 0
NoneAbove m [] = Unit {0}
NoneAbove m (u ∷ us) = (u ≤ m) × NoneAbove m us

-- ── inside: the units of a string that was read ──

pub record Units (s : List ℕ) (start count : ℕ) : Type 0 where
  pub there : count * 2 ≤ length s - start
  pub few : count ≤ 254
  pub pair : paired (cells 2 count (drop start s)) ≡ true

-- how many bytes each gives: half of a pair two of its four, any other as many as its code point has
unfoldable pub unit_len : ℕ → ℕ
unit_len u = pick (eqb (u / 2048) 27) 2 (length (encoded u))

-- ── inside: the first code point of the units that are left, and how many units it takes ──

pub record Leads (s : List ℕ) (at left : ℕ) (r : Point) : Type 0 where
  pub first : points (cells 2 left (drop at s)) ≡ r.value ∷ points (cells 2 (left - r.units) (drop (at + r.units * 2) s))
  pub some : 0 < r.units
  pub there : r.units ≤ left
  pub small : r.value < 0x110000

-- ── inside: the units that stand first, whatever follows them, and their bytes, as many low ones of a number ──

pub record Spells (s : List ℕ) (at : ℕ) (r : Word) : Type 0 where
  pub units : ℕ
  pub first : (us : List ℕ) → utf8 (cells 2 units (drop at s) ++ us) ≡ bytes r.size r.value ++ utf8 us
  pub after : r.at ≡ at + units * 2
  pub some : 0 < units
  pub few : units ≤ 4
  pub fits : r.size ≤ 4
