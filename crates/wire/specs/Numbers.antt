-- Integers of 8 to 64 bits in a row, each by its word of 64 bits.
-- Assumes nothing.
use Rattle.std.specs.Prelude.{Bool, true, false, List, [], ◌∷◌, map, ℕ, suc, ◌+◌, ◌-◌, ◌*◌, ◌^◌, leb, ltb, eqb, pos, negsuc, length, drop}
use Rattle.layout.specs.Answer.{refused, bare, Reader, pick, means}
use Rattle.layout.specs.Bytes.{cells}
use Rattle.layout.specs.Codec.{repeated}
use Rattle.layout.specs.Refusals.{PLACE}
use Rattle.wire.specs.Layout.{Kind, sint, uint, width, int, nat, pair, meaning, Shape, one, many, string, undef, Val, num, nums, str, nil}
use Rattle.wire.specs.Codecs.{unsigned, value}

-- ── their types ──

-- a type's code, and the kind of its integers
pub data PlainType : ℕ → Kind → Type 0 where
  int8 : PlainType 0x0001 (sint 1)
  uint8 : PlainType 0x0002 (uint 1)
  int16 : PlainType 0x0003 (sint 2)
  uint16 : PlainType 0x0004 (uint 2)
  int32 : PlainType 0x0005 (sint 4)
  uint32 : PlainType 0x0006 (uint 4)
  int64 : PlainType 0x0007 (sint 8)
  uint64 : PlainType 0x0008 (uint 8)

-- how many bytes they have
pub data Plain : ℕ → Type 0 where
  one_byte : Plain 1
  two_bytes : Plain 2
  four_bytes : Plain 4
  eight_bytes : Plain 8

-- ── words ──

-- an integer's word of 64 bits: one below 0 by two's complement, any other as it is
pub data Word : Val → ℕ → Type 0 where
  above : {n : ℕ} → Word (num (int (pos n))) n
  below : {m : ℕ} → Word (num (int (negsuc m))) (2 ^ 64 - suc m)
  plain : {n : ℕ} → Word (num (nat n)) n

pub data Words : List Val → List ℕ → Type 0 where
  none : Words [] []
  more : {v : Val} {x : ℕ} {vs : List Val} {xs : List ℕ} → Word v x → Words vs xs → Words (v ∷ vs) (x ∷ xs)

-- the word of a value that was read; nothing else than these integers is read here
abbrev pub word_of : Val → ℕ
word_of (num (int z)) = unsigned (2 ^ 64) z
word_of (num (nat n)) = n
word_of (num (pair h l)) = 0
word_of (nums xs) = 0
word_of (str us) = 0
word_of nil = 0

-- ── a row of them: 12 for any other type, then the refusal of reading the values one after the other ──

unfoldable pub numbers_at : ℕ → ℕ → Reader (List ℕ)
numbers_at t n s at = pick (eqb t 0) (refused (bare PLACE)) (pick (leb t 8) (means (map word_of) ((repeated n (value t)).read s at)) (refused (bare PLACE)))

-- ── one of them, as it stands ──

-- a width that they have
abbrev pub is_plain : ℕ → Bool
is_plain w = pick (eqb w 1) true (pick (eqb w 2) true (pick (eqb w 4) true (eqb w 8)))

-- whether a number is one of these
unfoldable pub is_in : ℕ → List ℕ → Bool
is_in x [] = false
is_in x (y ∷ ys) = pick (eqb y x) true (is_in x ys)

-- whether it is one of n numbers of w bytes from a place on, all of which are there
unfoldable pub has_number : ℕ → ℕ → List ℕ → ℕ → ℕ → Bool
has_number w n s at x = pick (is_plain w) (pick (leb (n * w) (length s - at)) (is_in x (cells w n (drop at s))) false) false

-- ── inside ──

-- n numbers of a kind that stand in the bytes, as values
abbrev pub numbers_in : Kind → ℕ → List ℕ → List Val
numbers_in k n s = map (λ m. num (meaning k m)) (cells (width k) n s)

-- their words, by the shape of their type
unfoldable pub words_in : Shape → ℕ → List ℕ → List ℕ
words_in (one k) n s = map word_of (numbers_in k n s)
words_in (many k) n s = []
words_in string n s = []
words_in undef n s = []

-- a number as its word: from `half` on it is one below 0, and `top` is what its word has above its own bytes
abbrev pub extended : ℕ → ℕ → ℕ → ℕ
extended half top v = pick (ltb v half) v (v + top)
