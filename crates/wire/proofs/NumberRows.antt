-- A row of n numbers of one type is one span: a value more is a span more.
-- Assumes nothing.
use mathlib.Core.Path.{◌≡◌, refl, ap, sym, ◌∙◌}
use mathlib.Core.List.{List, [], ◌∷◌}
use Prim.Native.Nat.{ℕ, zero, suc, ◌+◌, ◌-◌, ◌*◌, ◌<◌}
use native.Mathlib.Nat.{zero-add, add-zero, zero-mul}
use native.Mathlib.Omega.{arith}
use lib.ListN.{length, replicate}
use Rattle.layout.specs.Answer.{Told, Answer, got, refused, after, means, span_at}
use Rattle.layout.specs.Bytes.{Bytes}
use Rattle.layout.proofs.laws.Make.{Spanned, there, short, spanned, span_there}
use Rattle.layout.proofs.laws.Reading.{cut_at, span_more}
use Rattle.wire.specs.Layout.{Kind, width, one, undef, shape}
use Rattle.wire.specs.Tidy.{row_word, value_word, types}
use Rattle.wire.proofs.ValueLaws.{value_one, value_undef}
use Rattle.wire.proofs.RowWords.{types_one, sum_start, sum_more, sum_bad}

-- a row of one type: its first value, then the others
module _ (c n : ℕ) (s : List ℕ) (at : ℕ) where
  first_more : (t p : ℕ) → got t p ≡ means length (value_word c s at) → means (λ l. t + l) (means length (row_word (replicate n c) s p)) ≡ means length (row_word (replicate (suc n) c) s at)
  first_more t p e =
      ap (λ z. means (λ l. z + l) (means length (row_word (replicate n c) s p))) (sym (zero-add t)) ∙ sum_more (replicate (suc n) c) s 0 at c (omega arith) refl 0 t p e
      ∙ sum_start (replicate (suc n) c) s at

  first_bad : (t : Told) → refused t ≡ means length (value_word c s at) → refused t ≡ means length (row_word (replicate (suc n) c) s at)
  first_bad t e = sum_bad (replicate (suc n) c) s 0 at c (omega arith) refl 0 t e ∙ sum_start (replicate (suc n) c) s at

-- all of it at once
module _ (c : ℕ) (s : List ℕ) where
  row_undef : undef ≡ shape c → (n at : ℕ) → got 0 at ≡ means length (row_word (replicate n c) s at)
  unfolding row_word means
  row_undef e zero at = refl
  row_undef e (suc n) at = ap (means (λ l. 0 + l)) (row_undef e n at) ∙ first_more c n s at 0 at (value_undef c s at e)

  module _ (h : Bytes s) (k : Kind) (e : one k ≡ shape c) (some : 0 < width k) where
    row_numbers : (n at : ℕ) → after (span_at (cut_at (width k) s at) (n * width k) s at) (λ _ p. got (p - at) p) ≡ means length (row_word (replicate n c) s at)
    unfolding row_word means after
    row_numbers zero at =
        let none : at + 0 - at ≡ 0 = omega arith in
        rw (zero-mul, span_there (cut_at (width k) s at) 0 s at (omega arith), none, add-zero)
    row_numbers (suc n) at =
        ap (λ (x : Answer (Unit {0})). after x (λ _ p. got (p - at) p)) (sym (span_more (width k) some n s at))
        ∙ go (span_at at (width k) s at) (spanned at (width k) s at) (value_one c s at h k e) (row_numbers n)
      where
        -- the others, measured from where they begin
        rest : (x : Answer (Unit {0})) → Spanned (cut_at (width k) s (at + width k)) (n * width k) s (at + width k) x
            → after x (λ _ p. got (p - at) p) ≡ means (λ l. at + width k - at + l) (after x (λ _ p. got (p - (at + width k)) p))
        rest (got t p) (there f) = ap (λ m. got m p) (omega arith)
        rest (refused t) (short f) = refl

        go : (x : Answer (Unit {0})) → Spanned at (width k) s at x → after x (λ _ p. got (p - at) p) ≡ means length (value_word c s at)
            → ((p : ℕ) → after (span_at (cut_at (width k) s p) (n * width k) s p) (λ _ q. got (q - p) q) ≡ means length (row_word (replicate n c) s p))
            → after (after x (λ _ p. span_at (cut_at (width k) s p) (n * width k) s p)) (λ _ p. got (p - at) p) ≡ means length (row_word (replicate (suc n) c) s at)
        go (got t p) (there f) v others =
            rest (span_at (cut_at (width k) s p) (n * width k) s p) (spanned (cut_at (width k) s p) (n * width k) s p) ∙ ap (means (λ l. at + width k - at + l)) (others p)
            ∙ first_more c n s at (at + width k - at) p v
        go (refused t) (short f) v others = first_bad c n s at t v

-- ── as the writers' contracts name them ──

module _ (c n : ℕ) (s : List ℕ) (at : ℕ) where
  as_types : means length (row_word (replicate n c) s at) ≡ means length (row_word (types (c ∷ []) n) s at)
  as_types = ap (λ ts. means length (row_word ts s at)) (sym (types_one c n))

  pub undef_values : undef ≡ shape c → got 0 at ≡ means length (row_word (types (c ∷ []) n) s at)
  undef_values e = row_undef c s e n at ∙ as_types

  -- n numbers are one span of all their bytes; cut, it is told of the first that is not whole
  pub number_values : Bytes s → (k : Kind) → one k ≡ shape c → 0 < width k
      → after (span_at (cut_at (width k) s at) (n * width k) s at) (λ _ p. got (p - at) p) ≡ means length (row_word (types (c ∷ []) n) s at)
  number_values h k e some = row_numbers c s h k e some n at ∙ as_types
