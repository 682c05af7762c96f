-- An integer by its type code and its word: 64 bits, or for a type of 128 bits two of them, the low one first.
-- Assumes nothing.
use Rattle.std.specs.Prelude.{ℕ, suc, ◌-◌, ◌^◌, List, ◌++◌, pos, negsuc, ◌==◌, nat_le}
use Rattle.layout.specs.Answer.{bare, pick}
use Rattle.layout.specs.Bytes.{bytes}
use Rattle.layout.specs.Refusals.{PLACE}
use Rattle.layout.specs.Written.{Said, says, no}
use Rattle.wire.specs.Layout.{int, nat, pair, Val, num}

-- the bytes of each of the types 1 to 10; 0 for any other
unfoldable pub integer_width : ℕ → ℕ
integer_width code =
    pick (code == 0) 0
    (pick (nat_le code 2) 1 (pick (nat_le code 4) 2 (pick (nat_le code 6) 4 (pick (nat_le code 8) 8 (pick (nat_le code 10) 16 0)))))

-- the low bytes of the word, so that two's complement and a plain number are written alike
unfoldable pub integer_bytes : ℕ → ℕ → ℕ → List ℕ
integer_bytes w low high = bytes (pick (nat_le w 8) w 8) low ++ bytes (w - 8) high

-- 12 for a type that is no integer's
unfoldable pub integer_said : ℕ → ℕ → ℕ → Said
integer_said code low high = pick (integer_width code == 0) (no (bare PLACE)) (says (integer_bytes (integer_width code) low high))

-- the words by which a caller gives a value: a number below 0 in two's complement of 64 bits, any other as it is, one of 128 bits by its low half and its high
pub data InWords : Val → ℕ → ℕ → Type 0 where
  above : {n high : ℕ} → InWords (num (int (pos n))) n high
  below : {m high : ℕ} → InWords (num (int (negsuc m))) (2 ^ 64 - suc m) high
  plain : {n high : ℕ} → InWords (num (nat n)) n high
  halves : {high low : ℕ} → InWords (num (pair high low)) low high
