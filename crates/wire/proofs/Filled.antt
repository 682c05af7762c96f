-- The units that stand first and their UTF-8 as a number: one code point by its bytes, or two or four that fill a word. What is put of such a word is
-- what its units need, and more, which the units after them write over: each needs a byte at the least.
-- Assumes nothing.
use mathlib.Core.Path.{◌≡◌, refl, ap, ◌∙◌}
use mathlib.Core.List.{List, [], ◌∷◌, ◌++◌}
use Prim.Native.Nat.{ℕ, ◌+◌, ◌-◌, ◌*◌, ◌/◌, ◌%◌, ◌≤◌, ◌<◌}
use native.Mathlib.Omega.{arith}
use lib.ListN.{length, take, drop, length-append}
use lib.Seq.{drop-drop}
use Rattle.layout.specs.Bytes.{Bytes, bytes, number, cells}
use Rattle.layout.specs.Written.{put}
use Rattle.layout.proofs.laws.Numbers.{bytes_front, bytes_number, length_bytes}
use Rattle.layout.proofs.laws.Writing.{Owes, part_over}
use Rattle.wire.specs.declared.encode.Word.{Word}
use Rattle.wire.specs.Utf8.{pair_point, encoded, utf8, Spells}
use Rattle.wire.proofs.Small.{ascii_before}
use Rattle.wire.proofs.Spelled.{length_cells}
use Rattle.wire.proofs.Texts.{cells_parts}
use Rattle.wire.proofs.laws.Points.{two_is, three_is, four_is, utf8_alone, utf8_pair, utf8_many}

abbrev unit : List ℕ → ℕ → ℕ
unit s at = number (take 2 (drop at s))

-- these units stand first, and these are their bytes
spells : {s : List ℕ} {at value : ℕ} (front bs : List ℕ) → cells 2 (length front) (drop at s) ≡ front → ((us : List ℕ) → utf8 (front ++ us) ≡ bs ++ utf8 us) → value ≡ number bs → Bytes bs
    → 0 < length front → length front ≤ 4 → length bs ≤ 4 → Spells s at (record { value = value; at = at + length front * 2; size = length bs })
spells front bs stand spelled is small some few fits = record {
  units = length front;
  first = λ us. rw (stand, is, bytes_number bs small) (spelled us);
  after = refl;
  some = some;
  few = few;
  fits = fits;
}

module _ (s : List ℕ) (at u : ℕ) (is : u ≡ unit s at) where
  one_stands : cells 2 1 (drop at s) ≡ u ∷ []
  unfolding cells
  one_stands = rw is

  two_stand : (v : ℕ) → v ≡ unit s (at + 2) → cells 2 2 (drop at s) ≡ u ∷ v ∷ []
  unfolding cells
  two_stand v e = rw (is, e, drop-drop)

  -- ── below 0x80 ──

  pub one_ascii : u < 0x80 → Spells s at (record { value = u; at = at + 2; size = 1 })
  unfolding number
  one_ascii h = spells (u ∷ []) (u ∷ []) one_stands (λ us. ascii_before (u ∷ []) us (omega arith, tt)) (omega arith) (omega arith, tt) (omega arith) (omega arith) (omega arith)

  four_stand : (v w z : ℕ) → v ≡ unit s (at + 2) → w ≡ unit s (at + 4) → z ≡ unit s (at + 6) → cells 2 4 (drop at s) ≡ u ∷ v ∷ w ∷ z ∷ []
  unfolding cells
  four_stand v w z e f g =
      let third : at + 2 + 2 ≡ at + 4 = omega arith in
      let last : at + 4 + 2 ≡ at + 6 = omega arith in
      rw (is, e, f, g, drop-drop 2 at s, drop-drop 2 (at + 2) s, third, drop-drop 2 (at + 4) s, last)

  pub four_ascii : (v w z : ℕ) → v ≡ unit s (at + 2) → w ≡ unit s (at + 4) → z ≡ unit s (at + 6) → u < 0x80 → v < 0x80 → w < 0x80 → z < 0x80
      → Spells s at (record { value = u + v * 256 + w * 65536 + z * 16777216; at = at + 8; size = 4 })
  unfolding number
  four_ascii v w z e f g hu hv hw hz =
      let front = u ∷ v ∷ w ∷ z ∷ [] in
      spells front front (four_stand v w z e f g) (λ us. ascii_before front us (omega arith, (omega arith, (omega arith, (omega arith, tt))))) (omega arith) (omega arith, (omega arith, (omega arith, (omega arith, tt)))) (omega arith) (omega arith) (omega arith)

  -- ── two bytes each ──

  pub one_two : (x : ℕ) → 0x80 ≤ u → u < 0x800 → x ≡ number (encoded u) → Spells s at (record { value = x; at = at + 2; size = 2 })
  one_two x g h e =
      let bs = (0xC0 + u / 64) ∷ (0x80 + u % 64) ∷ [] in
      spells (u ∷ []) bs one_stands (λ us. utf8_alone u us (λ f. omega arith) ∙ rw (two_is u g h)) (rw (two_is u g h) at e) (omega arith, (omega arith, tt)) (omega arith) (omega arith) (omega arith)

  pub two_twos : (v x y : ℕ) → v ≡ unit s (at + 2) → 0x80 ≤ u → u < 0x800 → 0x80 ≤ v → v < 0x800 → x ≡ number (encoded u) → y ≡ number (encoded v)
      → Spells s at (record { value = x + 65536 * y; at = at + 4; size = 4 })
  unfolding number
  two_twos v x y is-v gu hu gv hv eu ev =
      let bs = (0xC0 + u / 64) ∷ (0x80 + u % 64) ∷ (0xC0 + v / 64) ∷ (0x80 + v % 64) ∷ [] in
      spells (u ∷ v ∷ []) bs (two_stand v is-v)
      (λ us. utf8_alone u (v ∷ us) (λ f. omega arith) ∙ rw (two_is u gu hu, utf8_alone v us (λ f. omega arith), two_is v gv hv))
      (omega (arith, rw (two_is u gu hu) at eu, rw (two_is v gv hv) at ev)) (omega arith, (omega arith, (omega arith, (omega arith, tt)))) (omega arith) (omega arith) (omega arith)

  -- ── three, and four ──

  pub one_three : (x : ℕ) → 0x800 ≤ u → u < 0x10000 → (u / 1024 ≡ 54 → ⊥) → x ≡ number (encoded u) → Spells s at (record { value = x; at = at + 2; size = 3 })
  one_three x g h alone e =
      let bs = (0xE0 + u / 4096) ∷ (0x80 + u / 64 % 64) ∷ (0x80 + u % 64) ∷ [] in
      spells (u ∷ []) bs one_stands (λ us. utf8_alone u us alone ∙ rw (three_is u g h)) (rw (three_is u g h) at e) (omega arith, (omega arith, (omega arith, tt))) (omega arith) (omega arith) (omega arith)

  pub one_pair : (v x : ℕ) → v ≡ unit s (at + 2) → u / 1024 ≡ 54 → x ≡ number (encoded (pair_point u v)) → Spells s at (record { value = x; at = at + 4; size = 4 })
  one_pair v x is-v h e =
      let c = pair_point u v in
      let bs = (0xF0 + c / 262144) ∷ (0x80 + c / 4096 % 64) ∷ (0x80 + c / 64 % 64) ∷ (0x80 + c % 64) ∷ [] in
      spells (u ∷ v ∷ []) bs (two_stand v is-v) (λ us. utf8_pair u v us h ∙ rw (four_is c (omega arith))) (rw (four_is c (omega arith)) at e) (omega arith, (omega arith, (omega arith, (omega arith, tt)))) (omega arith) (omega arith) (omega arith)

-- ── what is left to write after a word ──

-- of four units or more, four bytes at the least
pub word_room : (s : List ℕ) (at left : ℕ) → 4 ≤ left → 4 ≤ length (utf8 (cells 2 left (drop at s)))
word_room s at left h = omega (arith, utf8_many (cells 2 left (drop at s)), length_cells 2 left (drop at s))

module _ {s : List ℕ} {at : ℕ} {r : Word} (w : Spells s at r) (left : ℕ) (enough : 4 ≤ left) where
  word_first : utf8 (cells 2 left (drop at s)) ≡ bytes r.size r.value ++ utf8 (cells 2 (left - w.units) (drop r.at s))
  word_first = rw (cells_parts w.units left s at (omega (arith, w.few)), w.after) (w.first (cells 2 (left - w.units) (drop (at + w.units * 2) s)))

  pub word_owed : {out out₀ out' all : List ℕ} {next o : ℕ} → Owes out next (utf8 (cells 2 left (drop at s))) out₀ o all → out' ≡ put out next (bytes 4 r.value)
      → Owes out' (next + r.size) (utf8 (cells 2 (left - w.units) (drop r.at s))) out₀ o all
  word_owed {out} {out₀} {out'} {all} {next} {o} owed put_is =
      let c = bytes r.size r.value in
      let more = drop r.size (bytes 4 r.value) in
      let word : bytes 4 r.value ≡ c ++ more = bytes_front r.size 4 r.value w.fits in
      let size : length c ≡ r.size = length_bytes r.size r.value in
      let all_long = simp length-append at (ap length word_first) in
      let word-long = simp length-append at (ap length word) in
      rw size at
      (part_over c more word_first owed (put_is ∙ ap (put out next) word) (omega (arith, word_room s at left enough, all_long, word-long, length_bytes 4 r.value)))
