-- What the writers that are given numbers have to say: an integer, a string's units, an array's item bytes.
-- Assumes nothing.
use Rattle.std.specs.Prelude.{List, ◌++◌, ℕ, ◌/◌, ◌%◌, leb, eqb, length}
use Rattle.layout.specs.Answer.{pick, bare}
use Rattle.layout.specs.Bytes.{bytes, cells}
use Rattle.layout.specs.Codec.{celled}
use Rattle.layout.specs.Written.{Said, says, no}
use Rattle.layout.specs.Refusals.{TEXT, COUNT, PLACE}
use Rattle.wire.specs.Layout.{sint, uint, wide, width, int, nat, pair, paired, Shape, one, many, string, undef, shape, Val, num, nil}
use Rattle.wire.specs.Codecs.{text, array, shaped}
use Rattle.wire.specs.declared.given.Bits.{Bits}
use Rattle.wire.specs.declared.given.Integer.{Integer}
use Rattle.wire.specs.declared.given.Integer.TheVariants as integer

-- ── an integer of its own type: no refusal but 9 ──

abbrev pub integer_shape : Integer → Shape
integer_shape (integer.I8 z) = one (sint 1)
integer_shape (integer.U8 n) = one (uint 1)
integer_shape (integer.I16 z) = one (sint 2)
integer_shape (integer.U16 n) = one (uint 2)
integer_shape (integer.I32 z) = one (sint 4)
integer_shape (integer.U32 n) = one (uint 4)
integer_shape (integer.I64 z) = one (sint 8)
integer_shape (integer.U64 n) = one (uint 8)
integer_shape (integer.I128 p) = one wide
integer_shape (integer.U128 p) = one wide
integer_shape integer.Undef = undef

abbrev pub integer_val : Integer → Val
integer_val (integer.I8 z) = num (int z)
integer_val (integer.U8 n) = num (nat n)
integer_val (integer.I16 z) = num (int z)
integer_val (integer.U16 n) = num (nat n)
integer_val (integer.I32 z) = num (int z)
integer_val (integer.U32 n) = num (nat n)
integer_val (integer.I64 z) = num (int z)
integer_val (integer.U64 n) = num (nat n)
integer_val (integer.I128 p) = num (pair p.high p.low)
integer_val (integer.U128 p) = num (pair p.high p.low)
integer_val integer.Undef = nil

abbrev pub integer_word : Integer → List ℕ
integer_word v = (shaped (integer_shape v)).write (integer_val v)

-- what the code makes of it first
abbrev pub integer_bits : Bits → List ℕ
integer_bits b = bytes b.front b.low ++ bytes b.back b.high

-- ── a string from its units: 2, then 10 over 254 units ──

unfoldable pub text_said : List ℕ → Said
text_said us = pick (paired us) (pick (leb (length us) 254) (says (text.write us)) (no (bare COUNT))) (no (bare TEXT))

-- units one after the other
unfoldable pub units_word : List ℕ → List ℕ
units_word us = (celled 2 (length us)).write us

-- ── an array from its type code and its items' bytes ──

-- 10 where the bytes are no whole number of items, or of too many
unfoldable pub items_said : ℕ → List ℕ → Said
items_said w bs =
    pick (eqb (length bs % w) 0)
    (pick (leb (length bs / w) 0xFFFFFFFF) (says ((array w).write (cells w (length bs / w) bs))) (no (bare COUNT)))
    (no (bare COUNT))

-- 12 where the code is no array's
unfoldable pub shape_said : Shape → List ℕ → Said
shape_said (many k) bs = items_said (width k) bs
shape_said (one k) bs = no (bare PLACE)
shape_said string bs = no (bare PLACE)
shape_said undef bs = no (bare PLACE)

abbrev pub array_said : ℕ → List ℕ → Said
array_said t = shape_said (shape t)
