-- Code points one at a time: what is left to write after the first is what its units leave. How long that can be. And its bytes.
-- Assumes nothing.
use mathlib.Core.Path.{◌≡◌, refl, ap}
use mathlib.Core.Bool.{Bool, true, false}
use mathlib.Core.List.{List, [], ◌∷◌, ◌++◌}
use Prim.Native.Nat.{ℕ, suc, ◌+◌, ◌-◌, ◌*◌, ◌/◌, ◌%◌, ◌≤◌, ◌<◌}
use native.Mathlib.Omega.{arith}
use borrow.Author.Tests.{eq-eqb, ne_eqb, lt-ltb, le-ltb}
use lib.Dec.{ltb}
use lib.ListN.{length, take, drop, length-append}
use Rattle.layout.specs.Answer.{Told, Answer, got, refused, pick, means}
use Rattle.layout.specs.Bytes.{Bytes, bytes, number, cells}
use Rattle.layout.specs.Written.{spelling}
use Rattle.layout.proofs.laws.Numbers.{Bytes-drop, bytes_number}
use Rattle.wire.specs.declared.Part.{Part}
use Rattle.wire.specs.Layout.{high}
use Rattle.wire.specs.Places.{text_at, items_in}
use Rattle.wire.specs.Utf8.{pair_point, points, encoded, encoded_all, utf8, utf8_at, Leads}
use Rattle.wire.proofs.Spelled.{length_cells, text_stood}
use Rattle.wire.proofs.Texts.{cells_cons, cells_none}

-- ── the first code point ──

abbrev unit : List ℕ → ℕ → ℕ
unit s at = number (take 2 (drop at s))

-- a unit by itself, and a pair, whatever follows
pub points_alone : (u : ℕ) (us : List ℕ) → (u / 1024 ≡ 54 → ⊥) → points (u ∷ us) ≡ u ∷ points us
unfolding points
points_alone u [] e = refl
points_alone u (v ∷ us) e = rw (ne_eqb (u / 1024) 54 e)

pub points_pair : (u v : ℕ) (us : List ℕ) → u / 1024 ≡ 54 → points (u ∷ v ∷ us) ≡ pair_point u v ∷ points us
unfolding points
points_pair u v us e = rw (eq-eqb (u / 1024) 54 e)

alone_is : (s : List ℕ) (at left : ℕ) → 0 < left → (unit s at / 1024 ≡ 54 → ⊥)
    → points (cells 2 left (drop at s)) ≡ unit s at ∷ points (cells 2 (left - 1) (drop (at + 2) s))
alone_is s at left h e = rw (cells_cons left s at h) (points_alone (unit s at) (cells 2 (left - 1) (drop (at + 2) s)) e)

last_is : (s : List ℕ) (at left : ℕ) → left ≡ 1 → points (cells 2 left (drop at s)) ≡ unit s at ∷ points (cells 2 (left - 1) (drop (at + 2) s))
unfolding points cells
last_is s at left e = rw e

pair_is : (s : List ℕ) (at left : ℕ) → 0 < left → (left ≡ 1 → ⊥) → unit s at / 1024 ≡ 54
    → points (cells 2 left (drop at s)) ≡ pair_point (unit s at) (unit s (at + 2)) ∷ points (cells 2 (left - 2) (drop (at + 4) s))
pair_is s at left h e f =
    let less : left - 1 - 1 ≡ left - 2 = omega arith in
    let far : at + 2 + 2 ≡ at + 4 = omega arith in
    rw (cells_cons left s at h, cells_cons (left - 1) s (at + 2) (omega arith), less, far) (points_pair (unit s at) (unit s (at + 2)) (cells 2 (left - 2) (drop (at + 4) s)) f)

module _ (s : List ℕ) (at left u : ℕ) (some : 0 < left) (is : u ≡ unit s at) (small : u < 0x10000) where
  pub alone : (u / 1024 ≡ 54 → ⊥) → Leads s at left (record { value = u; units = 1 })
  alone e = record { first = rw is (alone_is s at left some (rw is at e)); some = omega arith; there = some; small = omega arith }

  pub last : left ≡ 1 → Leads s at left (record { value = u; units = 1 })
  last e = record { first = rw is (last_is s at left e); some = omega arith; there = some; small = omega arith }

  pub pair : (v : ℕ) → v ≡ unit s (at + 2) → u / 1024 ≡ 54 → (left ≡ 1 → ⊥) → Leads s at left (record { value = pair_point u v; units = 2 })
  pair v f h e = record { first = rw (is, f) (pair_is s at left some e (rw is at h)); some = omega arith; there = omega arith; small = omega arith }

-- ── its bytes ──

abbrev two_bytes : ℕ → List ℕ
two_bytes c = (0xC0 + c / 64) ∷ (0x80 + c % 64) ∷ []

abbrev three_bytes : ℕ → List ℕ
three_bytes c = (0xE0 + c / 4096) ∷ (0x80 + c / 64 % 64) ∷ (0x80 + c % 64) ∷ []

abbrev four_bytes : ℕ → List ℕ
four_bytes c = (0xF0 + c / 262144) ∷ (0x80 + c / 4096 % 64) ∷ (0x80 + c / 64 % 64) ∷ (0x80 + c % 64) ∷ []

encoded_few : (c : ℕ) → length (encoded c) ≤ 4
unfolding encoded
encoded_few c = go (ltb c 0x80) (ltb c 0x800) (ltb c 0x10000)
  where
    go : (x y z : Bool) → length (pick x (c ∷ []) (pick y (two_bytes c) (pick z (three_bytes c) (four_bytes c)))) ≤ 4
    go true y z = omega arith
    go false true z = omega arith
    go false false true = omega arith
    go false false false = omega arith

module _ (c : ℕ) where
  pub one_is : c < 0x80 → encoded c ≡ c ∷ []
  unfolding encoded
  one_is h = rw (lt-ltb c 0x80 h)

  pub two_is : 0x80 ≤ c → c < 0x800 → encoded c ≡ two_bytes c
  unfolding encoded
  two_is g h = rw (le-ltb c 0x80 g, lt-ltb c 0x800 h)

  pub three_is : 0x800 ≤ c → c < 0x10000 → encoded c ≡ three_bytes c
  unfolding encoded
  three_is g h = rw (le-ltb c 0x80 (omega arith), le-ltb c 0x800 g, lt-ltb c 0x10000 h)

  pub four_is : 0x10000 ≤ c → encoded c ≡ four_bytes c
  unfolding encoded
  four_is g = rw (le-ltb c 0x80 (omega arith), le-ltb c 0x800 (omega arith), le-ltb c 0x10000 g)

-- ── what is left to write ──

pub utf8_alone : (u : ℕ) (us : List ℕ) → (u / 1024 ≡ 54 → ⊥) → utf8 (u ∷ us) ≡ encoded u ++ utf8 us
unfolding utf8 encoded_all
utf8_alone u us e = rw (points_alone u us e)

pub utf8_pair : (u v : ℕ) (us : List ℕ) → u / 1024 ≡ 54 → utf8 (u ∷ v ∷ us) ≡ encoded (pair_point u v) ++ utf8 us
unfolding utf8 encoded_all
utf8_pair u v us e = rw (points_pair u v us e)

pub utf8_step : {s : List ℕ} {at left : ℕ} {r : _} → Leads s at left r
    → utf8 (cells 2 left (drop at s)) ≡ encoded r.value ++ utf8 (cells 2 (left - r.units) (drop (at + r.units * 2) s))
unfolding utf8 encoded_all
utf8_step l = rw l.first

pub utf8_none : (s : List ℕ) (at left : ℕ) → left ≤ 0 → utf8 (cells 2 left (drop at s)) ≡ []
unfolding utf8 encoded_all points
utf8_none s at left h = rw (cells_none left (drop at s) h)

-- ── the string at a place ──

module _ (s : List ℕ) (at : ℕ) where
  pub utf8_got : (part : Part) (n : ℕ) → got part n ≡ text_at s at → utf8_at s at ≡ got (utf8 (items_in 2 s part)) n
  unfolding utf8_at means
  utf8_got part n e = rw (← e)

  pub utf8_refused : (t : Told) → refused t ≡ text_at s at → utf8_at s at ≡ refused t
  unfolding utf8_at means
  utf8_refused t e = rw (← e)

-- ── how long it can be ──

points_few : (us : List ℕ) → length (points us) ≤ length us
unfolding points
points_few [] = omega arith
points_few (u ∷ []) = omega arith
points_few (u ∷ v ∷ us) = go (high u) (points_few us) (points_few (v ∷ us))
  where
    go : (b : Bool) → length (points us) ≤ length us → length (points (v ∷ us)) ≤ suc (length us)
        → length (pick b (pair_point u v ∷ points us) (u ∷ points (v ∷ us))) ≤ suc (suc (length us))
    go true h k = omega arith
    go false h k = omega arith

all_few : (cs : List ℕ) → length (encoded_all cs) ≤ 4 * length cs
unfolding encoded_all
all_few [] = omega arith
all_few (c ∷ cs) = omega (arith, length-append (encoded c) (encoded_all cs), encoded_few c, all_few cs)

pub utf8_few : (us : List ℕ) → length (utf8 us) ≤ 4 * length us
unfolding utf8
utf8_few us = omega (arith, all_few (points us), points_few us)

-- a byte for each unit, at the least
encoded_some : (c : ℕ) → 0 < length (encoded c)
unfolding encoded
encoded_some c = go (ltb c 0x80) (ltb c 0x800) (ltb c 0x10000)
  where
    go : (x y z : Bool) → 0 < length (pick x (c ∷ []) (pick y (two_bytes c) (pick z (three_bytes c) (four_bytes c))))
    go true y z = omega arith
    go false true z = omega arith
    go false false true = omega arith
    go false false false = omega arith

pub utf8_many : (us : List ℕ) → length us ≤ length (utf8 us)
unfolding utf8 points encoded_all
utf8_many [] = omega arith
utf8_many (u ∷ []) = omega (arith, length-append (encoded u) [], encoded_some u)
utf8_many (u ∷ v ∷ us) = go (high u) (utf8_many us) (utf8_many (v ∷ us))
  where
    go : (b : Bool) → length us ≤ length (utf8 us) → suc (length us) ≤ length (utf8 (v ∷ us)) → suc (suc (length us)) ≤ length (encoded_all (pick b (pair_point u v ∷ points us) (u ∷ points (v ∷ us))))
    go true h k = omega (arith, length-append (encoded (pair_point u v)) (utf8 us), ap length (four_is (pair_point u v) (omega arith)), h)
    go false h k = omega (arith, length-append (encoded u) (utf8 (v ∷ us)), encoded_some u, k)

byte_small : (s : List ℕ) → Bytes s → number (take 1 s) < 256
unfolding number
byte_small [] h = omega arith
byte_small (b ∷ s) h = omega (arith, h.0)

-- a string has at most 254 units, for its count is one byte
pub text_few : (s : List ℕ) → Bytes s → (at : ℕ) (part : Part) (n : ℕ) → got part n ≡ text_at s at → part.count ≤ 254
text_few s h at part n e = omega (arith, (text_stood s at part n e).few, byte_small (drop at s) (Bytes-drop at s h))

pub utf8_short : (s : List ℕ) → Bytes s → (at : ℕ) → length (spelling (utf8_at s at)) ≤ 1016
unfolding utf8_at means
utf8_short s h at = go (text_at s at) (text_few s h at)
  where
    go : (x : Answer Part) → ((part : Part) (n : ℕ) → got part n ≡ x → part.count ≤ 254) → length (spelling (means (λ p. utf8 (items_in 2 s p)) x)) ≤ 1016
    go (got p n) f = omega (arith, f p n refl, utf8_few (items_in 2 s p), length_cells 2 p.count (drop p.start s))
    go (refused t) f = omega arith

-- ── a code point's bytes, as a number ──

module _ (c x : ℕ) (is : x ≡ number (encoded c)) where
  pub one_word : c < 0x80 → bytes 1 x ≡ encoded c
  one_word h = rw (is, one_is c h) (bytes_number (c ∷ []) (omega arith, tt))

  pub two_word : 0x80 ≤ c → c < 0x800 → bytes 2 x ≡ encoded c
  two_word g h = rw (is, two_is c g h) (bytes_number (two_bytes c) (omega arith, (omega arith, tt)))

  pub three_word : 0x800 ≤ c → c < 0x10000 → bytes 3 x ≡ encoded c
  three_word g h = rw (is, three_is c g h) (bytes_number (three_bytes c) (omega arith, (omega arith, (omega arith, tt))))

  pub four_word : 0x10000 ≤ c → c < 0x110000 → bytes 4 x ≡ encoded c
  four_word g h = rw (is, four_is c g) (bytes_number (four_bytes c) (omega arith, (omega arith, (omega arith, (omega arith, tt)))))
