-- How many bytes the fields of a kind have, at most; and a number of so many bytes.
-- Assumes nothing.
use mathlib.Core.Path.{◌≡◌}
use mathlib.Core.Bool.{Bool, true, false}
use mathlib.Core.List.{List}
use Prim.Native.Nat.{ℕ, ◌≤◌}
use native.Mathlib.Omega.{arith}
use borrow.Author.Tests.{le-leb}
use lib.Dec.{leb, eqb}
use lib.ListN.{take}
use Rattle.layout.specs.Answer.{pick}
use Rattle.layout.specs.Bytes.{number}
use Rattle.network.specs.Packet.{phase_size, code_size, total_size}

-- one of two sizes
most : (b : Bool) (m n k : ℕ) → m ≤ k → n ≤ k → pick b m n ≤ k
most true m n k h i = h
most false m n k h i = i

pub phase_most : (k : ℕ) → phase_size k ≤ 4
unfolding phase_size
phase_most k = most (eqb k 6) 4 0 4 (omega arith) (omega arith)

pub code_most : (k : ℕ) → code_size k ≤ 2
unfolding code_size
code_most k = most (eqb k 6) 2 _ 2 (omega arith) (most (eqb k 7) 2 0 2 (omega arith) (omega arith))

pub total_most : (k : ℕ) → total_size k ≤ 8
unfolding total_size
total_most k = most (eqb k 9) 8 0 8 (omega arith) (omega arith)

-- eight bytes at most are read as they are asked for
pub number_of_width : {r : ℕ} (w : ℕ) (s : List ℕ) → w ≤ 8 → r ≡ number (take (pick (leb w 8) w 8) s) → r ≡ number (take w s)
number_of_width w s h e = rw (le-leb w 8 h) at e
