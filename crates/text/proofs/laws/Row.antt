-- A line, piece by piece: words and numbers, each put where it has room, and how long the line is at most.
-- Assumes nothing.
use mathlib.Core.List.{List, [], ◌++◌}
use Prim.Native.Nat.{ℕ, ◌+◌, ◌^◌, ◌≤◌, ◌<◌}
use native.Mathlib.Omega.{arith}
use lib.ListN.{length, length-append}
use Rattle.layout.specs.Written.{Put, roomed}
use Rattle.layout.proofs.laws.Stored.{more, room_left}
use Rattle.layout.proofs.laws.Writing.{nothing, then}
use Rattle.text.specs.Number.{decimal}
use Rattle.text.proofs.laws.Numerals.{decimal_short}

-- bs stands from a place on, and has at most so many bytes
pub record Line (out : List ℕ) (at : ℕ) (bs : List ℕ) (most : ℕ) (new : List ℕ) (next : ℕ) : Type 0 where
  pub puts : Put out at bs new next
  pub short : length bs ≤ most

pub begins : (out : List ℕ) (at : ℕ) → Line out at [] 0 out at
begins out at = record { puts = nothing; short = omega arith }

module _ {out bs mid new : List ℕ} {at most k m : ℕ} (l : Line out at bs most mid k) where
  pub word : (w : List ℕ) → at + most + length w ≤ length out → Put mid k (roomed mid k w) new m → Line out at (bs ++ w) (most + length w) new m
  word w h p = record { puts = more l.puts w (omega (arith, l.short)) p; short = omega (arith, l.short, length-append bs w) }

  pub number : (n : ℕ) → n < 2 ^ 64 → at + most + 20 ≤ length out → Put mid k (roomed mid k (decimal n)) new m → Line out at (bs ++ decimal n) (most + 20) new m
  number n small h p =
      let s = decimal_short n small in
      record { puts = more l.puts (decimal n) (omega (arith, l.short)) p; short = omega (arith, l.short, length-append bs (decimal n)) }

  -- a piece that has room, of at most so many bytes
  pub piece : (w : List ℕ) (n : ℕ) → length w ≤ n → Put mid k w new m → Line out at (bs ++ w) (most + n) new m
  piece w n h p = record { puts = then l.puts p; short = omega (arith, l.short, length-append bs w) }

-- the room that is left after it
pub left_room : {out bs new : List ℕ} {at most next : ℕ} → Line out at bs most new next → (n : ℕ) → at + most + n ≤ length out → next + n ≤ length new
left_room l n h = room_left l.puts n (omega (arith, l.short))
