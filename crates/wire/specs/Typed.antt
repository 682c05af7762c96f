-- The types of what a writer is given, by document 01's table: an integer with the code of its type and its value, an array's code with its items. No writer stands here.
-- Assumes nothing.
use Rattle.std.specs.Prelude.{◌≡◌, List, ◌++◌, ℕ, suc, ◌+◌, ◌*◌, ◌^◌, ◌≤◌, ◌<◌, ℤ, pos, negsuc, length}
use Rattle.layout.specs.Bytes.{bytes}
use Rattle.wire.specs.Layout.{Kind, sint, uint, wide, int, nat, pair, Val, num, nil}
use Rattle.wire.specs.declared.Pair.{Pair}
use Rattle.wire.specs.declared.given.Integer.{Integer}
use Rattle.wire.specs.declared.given.Integer.TheVariants as integer

-- ── integers ──

-- from -2^(b-1) to below 2^(b-1), `full` being 2^b
abbrev pub Signed : ℕ → ℤ → Type 0
Signed full (pos n) = n + n < full
Signed full (negsuc m) = suc m + suc m ≤ full

-- an integer that its type has, the type's code, and the integer's value
pub data IntegerType : Integer → ℕ → Val → Type 0 where
  int8 : {z : ℤ} → Signed (2 ^ 8) z → IntegerType (integer.I8 z) 0x0001 (num (int z))
  uint8 : {n : ℕ} → n < 2 ^ 8 → IntegerType (integer.U8 n) 0x0002 (num (nat n))
  int16 : {z : ℤ} → Signed (2 ^ 16) z → IntegerType (integer.I16 z) 0x0003 (num (int z))
  uint16 : {n : ℕ} → n < 2 ^ 16 → IntegerType (integer.U16 n) 0x0004 (num (nat n))
  int32 : {z : ℤ} → Signed (2 ^ 32) z → IntegerType (integer.I32 z) 0x0005 (num (int z))
  uint32 : {n : ℕ} → n < 2 ^ 32 → IntegerType (integer.U32 n) 0x0006 (num (nat n))
  int64 : {z : ℤ} → Signed (2 ^ 64) z → IntegerType (integer.I64 z) 0x0007 (num (int z))
  uint64 : {n : ℕ} → n < 2 ^ 64 → IntegerType (integer.U64 n) 0x0008 (num (nat n))
  int128 : {p : Pair} → p.high < 2 ^ 64 → p.low < 2 ^ 64 → IntegerType (integer.I128 p) 0x0009 (num (pair p.high p.low))
  uint128 : {p : Pair} → p.high < 2 ^ 64 → p.low < 2 ^ 64 → IntegerType (integer.U128 p) 0x000A (num (pair p.high p.low))
  undef : IntegerType integer.Undef 0x0000 nil

-- ── arrays ──

-- an array's type code, and what its items are
pub data ArrayType : ℕ → Kind → Type 0 where
  aint8 : ArrayType 0x4001 (sint 1)
  auint8 : ArrayType 0x4002 (uint 1)
  aint16 : ArrayType 0x4003 (sint 2)
  auint16 : ArrayType 0x4004 (uint 2)
  aint32 : ArrayType 0x4005 (sint 4)
  auint32 : ArrayType 0x4006 (uint 4)
  aint64 : ArrayType 0x4007 (sint 8)
  auint64 : ArrayType 0x4008 (uint 8)
  aint128 : ArrayType 0x4009 wide
  auint128 : ArrayType 0x400A wide

-- a whole number of items of w bytes, not over 4,294,967,295; behind their count
pub record Items (w : ℕ) (bs v : List ℕ) : Type 0 where
  pub count : ℕ
  pub whole : length bs ≡ count * w
  pub few : count ≤ 4294967295
  pub is : v ≡ bytes 4 count ++ bs
