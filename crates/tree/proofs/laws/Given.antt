-- A row given from its front, number by number, into what has room for it: the loop of a function for each width of number.
-- Assumes nothing.
use mathlib.Core.Path.{refl, ◌∙◌}
use mathlib.Core.List.{List}
use Prim.Native.Nat.{ℕ, ◌+◌, ◌≤◌, ◌<◌}
use native.Mathlib.Numerals.{add-one}
use native.Mathlib.Omega.{arith}
use lib.ListN.{length, drop, set, get_or, drop_of_length-le}
use lib.Seq.{drop-cons}
use Rattle.layout.specs.Answer.{got}
use Rattle.layout.specs.Written.{Wrote, says}
use Rattle.layout.proofs.laws.Writing.{Owes, start, byte, end, done}

-- the first i of the row are given, and those that are left are owed
pub record Giving (row out₀ out : List ℕ) (i : ℕ) : Type 0 where
  pub owes : Owes out i (drop i row) out₀ 0 row
  pub within : i ≤ length row
  pub room : length row ≤ length out₀

pub begun : {row out : List ℕ} → length row ≤ length out → Giving row out out 0
begun h = record { owes = start; within = omega arith; room = h }

pub one_more : {row out₀ out : List ℕ} {i : ℕ} → Giving row out₀ out i → i < length row → Giving row out₀ (set out i (get_or row i 0)) (i + 1)
one_more {row} {out₀} {out} {i} g h = record {
  owes = byte (drop-cons row i 0 h ∙ rw add-one) g.owes;
  within = omega arith;
  room = g.room;
}

pub all_given : {row out₀ out : List ℕ} {i : ℕ} → Giving row out₀ out i → length row ≤ i → Wrote (says row) out₀ (got tt i) out
all_given {row} g h = done refl g.room (end (drop_of_length-le row h) g.owes)
