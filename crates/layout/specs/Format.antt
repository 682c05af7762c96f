-- What a reader and a tidy writer owe to a grammar.
-- Assumes nothing.
use Rattle.std.specs.Prelude.{◌≡◌, List, ℕ, ◌+◌, length, take, drop}
use Rattle.layout.specs.Answer.{Told, Answer, got, refused}
use Rattle.layout.specs.Bytes.{Bytes}
use Rattle.layout.specs.Codec.{Codec}
use Rattle.layout.specs.Grammar.{loose, tidy, Grammar}

-- the bytes of s from `at` up to n are w
pub record Stands (s : List ℕ) (at n : ℕ) (w : List ℕ) : Type 0 where
  pub is : take (length w) (drop at s) ≡ w
  pub till : n ≡ at + length w

-- what was read of s at a place is a word of G that stands there, with its reading
pub data Sound {R : Type 0} (G : Grammar R) (s : List ℕ) (at : ℕ) : Answer R → Type 0 where
  word : {w : List ℕ} {r : R} {n : ℕ} → Stands s at n w → G loose w r → Sound G s at (got r n)
  none : {t : Told} → Sound G s at (refused t)

pub record Format {R : Type 0} (G : Grammar R) (F : Codec R) : Type 0 where
  -- what it reads is a word; every word is read, whatever stands before and after it
  pub sound : (s : List ℕ) → Bytes s → (at : ℕ) → Sound G s at (F.read s at)
  pub complete : {s w : List ℕ} {at n : ℕ} {r : R} → Stands s at n w → G loose w r → F.read s at ≡ got r n
  -- a tidy word is a word; it is what is written; each reading has one
  pub inside : {w : List ℕ} {r : R} → G tidy w r → G loose w r
  pub one : {w : List ℕ} {r : R} → G tidy w r → w ≡ F.write r
  pub has : {w : List ℕ} {r : R} → G loose w r → G tidy (F.write r) r
