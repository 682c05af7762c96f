-- Values that are no strings are their own tidy words: so many of them are copied as they stand.
-- Assumes nothing.
use mathlib.Core.Path.{◌≡◌, refl, sym, ap, ◌∙◌}
use mathlib.Core.Bool.{true}
use mathlib.Core.List.{List, [], ◌∷◌}
use Prim.Native.Nat.{ℕ}
use lib.ListN.{length, take, drop}
use Rattle.layout.specs.Answer.{Answer, got, refused, means}
use Rattle.layout.specs.Bytes.{Bytes}
use Rattle.layout.specs.Codec.{repeated}
use Rattle.layout.specs.Format.{Stands}
use Rattle.layout.specs.Written.{took, spelling}
use Rattle.layout.proofs.laws.Make.{repeat_format}
use Rattle.layout.proofs.laws.Numbers.{zero_one}
use Rattle.layout.proofs.laws.Single.{copied, single_repeat}
use Rattle.wire.specs.Codecs.{value}
use Rattle.wire.specs.Layout.{Val, Value}
use Rattle.wire.specs.Tidy.{row_word, types}
use Rattle.wire.proofs.Described.{row_values}
use Rattle.wire.proofs.laws.Formats.{value_format, value_single}

module _ (t n : ℕ) (s : List ℕ) (at : ℕ) where
  abbrev Word : List ℕ
  Word = spelling (row_word (types (t ∷ []) n) s at)

  stand_there : (t ≡ 0xFFFF → ⊥) → Bytes s → took (row_word (types (t ∷ []) n) s at) ≡ true → Word ≡ take (length Word) (drop at s)
  unfolding means
  stand_there other h = rw (row_values t n s at) (go ((repeated n (value t)).read s at) (λ vs q e. copied (repeat_format n (value_format t)) (single_repeat (Value t) n (value_single t other)) s h at vs q e))
    where
      go : (x : Answer (List Val)) → ((vs : List Val) (q : ℕ) → got vs q ≡ x → Stands s at q ((repeated n (value t)).write vs)) → took (means (repeated n (value t)).write x) ≡ true
          → spelling (means (repeated n (value t)).write x) ≡ take (length (spelling (means (repeated n (value t)).write x))) (drop at s)
      go (got vs q) stands e = sym (stands vs q refl).is
      go (refused u) stands e = zero_one (cc)

  -- by how many bytes they are
  pub values_copied : (t ≡ 0xFFFF → ⊥) → Bytes s → took (row_word (types (t ∷ []) n) s at) ≡ true → (m : ℕ) → m ≡ length Word → Word ≡ take m (drop at s)
  values_copied other h e m l = stand_there other h e ∙ ap (λ k. take k (drop at s)) (sym l)
