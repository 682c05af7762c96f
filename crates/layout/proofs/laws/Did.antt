-- What a writer did, by its answer: it wrote all that was due, or nothing.
-- Assumes nothing.
use mathlib.Core.Path.{◌≡◌, refl}
use mathlib.Core.Bool.{Bool, true, false}
use mathlib.Core.List.{List, ◌++◌}
use Prim.Native.Nat.{ℕ, ◌≤◌, ◌<◌}
use borrow.Author.Tests.{leb-true, leb-false}
use lib.Dec.{leb}
use lib.ListN.{length, drop}
use Rattle.layout.specs.Answer.{Told, Answer, got, refused, bare, pick}
use Rattle.layout.specs.Refusals.{ROOM}
use Rattle.layout.specs.Written.{Said, says, no, Wrote, answer_of, left_of}
use Rattle.layout.proofs.laws.Numbers.{zero_one}

-- it wrote all that was due
pub record Whole (s : Said) (old : List ℕ) (n : ℕ) (new : List ℕ) : Type 0 where
  pub bs : List ℕ
  pub due : s ≡ says bs
  pub fits : length bs ≤ length old
  pub count : n ≡ length bs
  pub left : new ≡ bs ++ drop (length bs) old

pub whole : {s : Said} {old new : List ℕ} {n : ℕ} → Wrote s old (got tt n) new → Whole s old n new
unfolding answer_of left_of
whole {s} {old} {new} {n} w = of s refl w.answers w.leaves
  where
    of : (z : Said) → s ≡ z → got tt n ≡ answer_of z old → new ≡ left_of z old → Whole s old n new
    of (no t) d e f = zero_one (cc)
    of (says bs) d e f = go (leb (length bs) (length old)) refl e f
      where
        go : (b : Bool) → leb (length bs) (length old) ≡ b → ◌≡◌ {A = Answer (Unit {0})} (got tt n) (pick b (got tt (length bs)) (refused (bare ROOM))) → new ≡ pick b (bs ++ drop (length bs) old) old → Whole s old n new
        go true h e f = record { bs = bs; due = d; fits = leb-true (length bs) (length old) h; count = cc; left = f }
        go false h e f = zero_one (cc)

-- it wrote nothing: nothing was due, or there was too little room
pub data Kept (s : Said) (old : List ℕ) (t : Told) : Type 0 where
  not_due : s ≡ no t → Kept s old t
  too_short : (bs : List ℕ) → s ≡ says bs → length old < length bs → t ≡ bare ROOM → Kept s old t

pub kept : {s : Said} {old new : List ℕ} {t : Told} → Wrote s old (refused t) new → (new ≡ old) × Kept s old t
unfolding answer_of left_of
kept {s} {old} {new} {t} w = of s refl w.answers w.leaves
  where
    of : (z : Said) → s ≡ z → refused t ≡ answer_of z old → new ≡ left_of z old → (new ≡ old) × Kept s old t
    of (no u) d e f = (f, not_due (cc))
    of (says bs) d e f = go (leb (length bs) (length old)) refl e f
      where
        go : (b : Bool) → leb (length bs) (length old) ≡ b → ◌≡◌ {A = Answer (Unit {0})} (refused t) (pick b (got tt (length bs)) (refused (bare ROOM))) → new ≡ pick b (bs ++ drop (length bs) old) old → (new ≡ old) × Kept s old t
        go true h e f = zero_one (cc)
        go false h e f = (f, too_short bs d (leb-false (length bs) (length old) h) (cc))
