-- The newer value against the layout: the payload where it is exactly one value of the type, else a word of the reading's current value.
-- Assumes nothing.
use mathlib.Core.Path.{◌≡◌, refl, ap, ◌∙◌}
use mathlib.Core.Bool.{Bool, true, false}
use mathlib.Core.List.{List}
use Prim.Native.Nat.{ℕ}
use native.Mathlib.Omega.{arith}
use borrow.Author.Tests.{eqb-true, eq-eqb}
use lib.ListN.{length}
use lib.Seq.{take-length}
use Rattle.layout.specs.Answer.{Answer, got, refused}
use Rattle.layout.specs.Bytes.{Bytes}
use Rattle.layout.specs.Grammar.{loose}
use Rattle.layout.proofs.laws.Meets.{filled, reads_exactly}
use Rattle.layout.proofs.laws.Numbers.{zero_one}
use Rattle.layout.proofs.laws.Words.{self}
use Rattle.wire.specs.Description.{PropInfo}
use Rattle.wire.specs.Layout.{Val, shape, Value}
use Rattle.wire.specs.Newer.{ends_at, fills, newer_bytes}
use Rattle.wire.specs.Places.{Located, value_at, shape_in}
use Rattle.wire.specs.Property.{property_at, property_in}
use Rattle.wire.specs.Worded.{Picks}
use Rattle.wire.proofs.Described.{located_is}
use Rattle.wire.proofs.laws.Formats.{value_format}
use Rattle.wire.proofs.Held.{held}
use Rattle.wire.proofs.laws.Located.{values}

-- the test is for a word, exactly
word_fills : (t : ℕ) (p : List ℕ) (v : Val) → Value t loose p v → fills t p ≡ true
word_fills t p v g =
    let l = located_is t p 0 v (length p) ((value_format t).complete (self p) g) in
    ap (ends_at (length p)) l.1 ∙ eq-eqb (length p) (length p) refl

fills_word : (t : ℕ) (p : List ℕ) → Bytes p → fills t p ≡ true → (v : Val) × Value t loose p v
fills_word t p h e = go (value_at t p 0) refl e
  where
    go : (x : Answer Located) → value_at t p 0 ≡ x → ends_at (length p) x ≡ true → (v : Val) × Value t loose p v
    go (got l m) f e = (shape_in (shape t) p l, filled ((reads_exactly (value_format t) (values t) p h (value_at t p 0) refl).accepts l m f) (omega (arith, eqb-true m (length p) e)))
    go (refused u) f e = zero_one (cc)

module _ (there : Bool) (d : List ℕ) (h : Bytes d) (x : PropInfo) (n : ℕ) (read : property_at there d 0 ≡ got x n) (p : List ℕ) (k : Bytes p) where
  pub picks : Picks x.data_type p (property_in d x).current (newer_bytes there d p)
  picks = record {
    later = λ v g. rw (read, word_fills x.data_type p v g, take-length p);
    other = λ none. go none (fills x.data_type p) refl;
  }
    where
      go : ((v : Val) → Value x.data_type loose p v → ⊥) → (b : Bool) → fills x.data_type p ≡ b → Value x.data_type loose (newer_bytes there d p) (property_in d x).current
      go none true e = let f = fills_word x.data_type p k e in absurd (none f.0 f.1)
      go none false e = rw (read, e) (held d h there x n read).current.reads
