-- The tests that the code makes. An integer of 8 to 64 bits is held by its sign and its word of 64 bits, two's complement; a span is taken modulo 2^64.
-- That they hold exactly where the integers' own do is proved in proofs/Spans; that values are compared by their meaning, in proofs/Members.
-- Assumes nothing.
use Rattle.std.specs.Prelude.{◌≡◌, ℕ, ◌+◌, ◌-◌, ◌*◌, ◌%◌, ◌^◌, Bool, true, false, not, List, [], ◌∷◌, length, take, drop, ◌==◌, nat_le, nat_lt}
use Rattle.std.specs.Borrow.{Bor}
use Rattle.std.specs.Int.Signed.{non_neg}
use Rattle.layout.specs.Answer.{Answer, got, refused, pick}
use Rattle.layout.specs.Grammar.{loose}
use Rattle.wire.specs.Codecs.{unsigned}
use Rattle.wire.specs.Layout.{int, nat, pair, STR, Val, Value}
use Rattle.wire.specs.List.{list_at}
use Rattle.wire.specs.Places.{Located, number_is, items, units, empty}
use Rattle.wire.specs.Worded.{Yields}
use Rattle.wire.specs.declared.list.Values.{Values}
use Rattle.panel.specs.Test.{is_member}
use Rattle.panel.specs.declared.range.Whole.{Whole}

-- ── integers ──

abbrev pub no_whole : Whole
no_whole = record { below = false; word = 0 }

abbrev pub whole_of : Located → Whole
whole_of (number_is (int z)) = record { below = not (non_neg z); word = unsigned (2 ^ 64) z }
whole_of (number_is (nat n)) = record { below = false; word = n }
whole_of (number_is (pair h l)) = no_whole
whole_of (items p) = no_whole
whole_of (units p) = no_whole
whole_of empty = no_whole

abbrev pub whole_from : Answer Located → Whole
whole_from (got l n) = whole_of l
whole_from (refused t) = no_whole

-- ── a type ──

-- nothing is read of UNDEF alone
abbrev pub is_nothing : Located → Bool
is_nothing (number_is n) = false
is_nothing (items p) = false
is_nothing (units p) = false
is_nothing empty = true

-- ── a range ──

unfoldable pub at_most : Whole → Whole → Bool
at_most a b = pick a.below (pick b.below (nat_le a.word b.word) true) (pick b.below false (nat_le a.word b.word))

unfoldable pub span : Whole → Whole → ℕ
span low v = (v.word + (2 ^ 64 - low.word)) % 2 ^ 64

abbrev pub at_end : Whole → Whole → Whole → Bool
at_end low high v = pick (v.word == low.word) true (v.word == high.word)

unfoldable pub at_step : Whole → Whole → Whole → Whole → Bool
at_step low high step v = pick step.below (at_end low high v) (pick (step.word == 0) (at_end low high v) (span low v % step.word == 0))

unfoldable pub whole_range : Whole → Whole → Whole → Whole → Bool
whole_range low high step v = pick (at_most low v) (pick (at_most v high) (at_step low high step v) false) false

-- ── a list ──

-- the bytes by which a value is compared: of a string the units before the last, else all of them
unfoldable pub core_of : ℕ → List ℕ → List ℕ
core_of t w = pick (t == STR) (pick (nat_lt (length w) 3) [] (take (length w - 3) (drop 1 w))) w

-- the list gives some values
abbrev pub Gives : ℕ → Values → Type 0
Gives t l = (vs : List Val) × Yields t l.src.now l vs

-- the list over the description from a place on, with so many values left
abbrev pub rest : Bor (List ℕ) → ℕ → ℕ → ℕ → Values
rest description t at left = list_at description (record { ty = t; at = at; left = left; refusal = 0 })

-- what the search of a list answers: whether the value that the chosen bytes are is one of those that the list gives
pub record Finds (t : ℕ) (l : Values) (chosen : List ℕ) (r : Bool) : Type 0 where
  pub finds : (vs : List Val) (v : Val) → Yields t l.src.now l vs → Value t loose chosen v → r ≡ is_member v vs

-- ── a row of numbers ──

-- how many bytes each value of a type has, where all have 1, 2, 4 or 8; 0 for any other type
unfoldable pub plain_width : ℕ → ℕ
plain_width t = pick (t == 0) 0 (pick (nat_le t 2) 1 (pick (nat_le t 4) 2 (pick (nat_le t 6) 4 (pick (nat_le t 8) 8 0))))

-- a width that numbers have here
pub data Plain : ℕ → Type 0 where
  one_byte : Plain 1
  two_bytes : Plain 2
  four_bytes : Plain 4
  eight_bytes : Plain 8

-- whether a number is one of these
unfoldable pub is_in : ℕ → List ℕ → Bool
is_in x [] = false
is_in x (y ∷ ys) = pick (y == x) true (is_in x ys)

-- so many values of a width that the type has are there from a place on, and the chosen bytes are as wide
unfoldable pub laid_out : ℕ → ℕ → ℕ → ℕ → ℕ → Bool
laid_out w n first size own = pick (w == 0) false (pick (own == w) (nat_le (n * w) (size - first)) false)
