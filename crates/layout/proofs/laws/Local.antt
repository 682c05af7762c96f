-- A reader looks at the bytes that it takes, and at no other: what it reads of a word it reads wherever that word stands. Of any numbers, bytes or not.
-- Assumes nothing.
use mathlib.Core.Path.{◌≡◌, refl, ap, sym, subst}
use mathlib.Core.Bool.{Bool, true, false}
use mathlib.Core.List.{List, [], append-nil}
use Prim.Native.Nat.{ℕ, zero, suc, ◌-◌, ◌≤◌}
use native.Mathlib.Omega.{arith}
use lib.ListN.{length, take, drop}
use Rattle.layout.specs.Answer.{Told, Answer, got, refused, pick, after, means, located, span_at, field_at}
use Rattle.layout.specs.Codec.{Codec, nothing, ◌and◌, leading, only, through, field, repeated}
use Rattle.layout.specs.Format.{Stands, Sound, word, none}
use Rattle.layout.specs.Grammar.{loose, Grammar}
use Rattle.layout.proofs.laws.Make.{after_sound, means_sound, sound_sound, Spanned, there, short, spanned, field_complete}
use Rattle.layout.proofs.laws.Words.{front, join, part_there, split, stands_none}

-- the words that a reader reads so wherever they stand
abbrev pub Own : {R : Type 0} → Codec R → Grammar R
Own F p w r = (s : List ℕ) (at n : ℕ) → Stands s at n w → F.read s at ≡ got r n

pub record Local {R : Type 0} (F : Codec R) : Type 0 where
  pub own : (s : List ℕ) (at : ℕ) → Sound (Own F) s at (F.read s at)

pub nothing_local : {R : Type 0} (r : R) → Local (nothing r)
nothing_local r = record { own = λ s at. word stands_none (λ s at n st. ap (got r) (omega (arith, st.till))) }

-- what is read of so many bytes
module _ {R : Type 0} (k : ℕ) (mean : List ℕ → R) (out : R → List ℕ) where
  pub field_local : Local (record { read = field_at k mean; write = out })
  unfolding field_at after
  field_local = record { own = λ s at. go s at (span_at at k s at) (spanned at k s at) }
    where
      go : (s : List ℕ) (at : ℕ) (x : Answer (Unit {0})) → Spanned at k s at x → Sound (Own (record { read = field_at k mean; write = out })) s at (after x λ _ next. got (mean (take k (drop at s))) next)
      go s at (got t n) (there f) =
          let st = part_there s at k f in
          let long : length (take k (drop at s)) ≡ k = omega (arith, st.till) in
          word st (λ s' at' n' st'. field_complete (λ p w r. (length w ≡ k) × (mean w ≡ r)) k mean (λ w r g. g) st' (long, refl))
      go s at (refused t) (short f) = none

module _ {A B : Type 0} {F : Codec A} {K : A → Codec B} (f : Local F) (k : (a : A) → Local (K a)) where
  pub and_local : Local (F and K)
  unfolding after means
  and_local = record { own = λ s at. after_sound _ (f.own s at) λ a n u st g. means_sound _ ((k a).own s n) λ b m v st' g'. word (join st st') (λ s₂ at₂ n₂ st₂. let p = split u v st₂ in rw (g _ _ _ p.0, g' _ _ _ p.1)) }

module _ {A R : Type 0} {F : Codec A} {K : A → Codec R} (f : Local F) (c : R → A) (k : (a : A) → Local (K a)) where
  pub leading_local : Local (leading F c K)
  unfolding after
  leading_local = record { own = λ s at. after_sound _ (f.own s at) λ a n u st g. sound_sound ((k a).own s n) λ r m v st' g'. word (join st st') (λ s₂ at₂ n₂ st₂. let p = split u v st₂ in rw (g _ _ _ p.0) (g' _ _ _ p.1)) }

module _ {R : Type 0} {F : Codec R} (why : ℕ → Told) (test : R → Bool) (f : Local F) where
  pub only_local : Local (only why test F)
  unfolding after
  only_local = record { own = λ s at. after_sound _ (f.own s at) λ r n w st g. go s at r n w st g (test r) refl }
    where
      go : (s : List ℕ) (at : ℕ) (r : R) (n : ℕ) (w : List ℕ) → Stands s at n w → Own F loose w r → (b : Bool) → test r ≡ b → Sound (Own (only why test F)) s at (pick b (got r n) (refused (why at)))
      go s at r n w st g true e = word {r = r} st (λ s₂ at₂ n₂ st₂. rw (g s₂ at₂ n₂ st₂, e))
      go s at r n w st g false e = none

module _ {A B : Type 0} {F : Codec A} (h : A → B) (out : B → List ℕ) (f : Local F) where
  pub through_local : Local (through h F out)
  unfolding means
  through_local = record { own = λ s at. means_sound _ (f.own s at) λ a n w st g. word st (λ s₂ at₂ n₂ st₂. rw (g s₂ at₂ n₂ st₂)) }

module _ {R : Type 0} {F : Codec R} (f : Local F) where
  pub as_field_local : Local (field F)
  unfolding located
  as_field_local = record { own = λ s at. go s at (f.own s at) }
    where
      go : (s : List ℕ) (at : ℕ) {x : Answer R} → Sound (Own F) s at x → Sound (Own (field F)) s at (located at x)
      go s at (word {r} st g) = word {r = r} st (λ s₂ at₂ n₂ st₂. rw (g s₂ at₂ n₂ st₂))
      go s at none = none

pub repeated_local : {R : Type 0} {F : Codec R} (n : ℕ) → Local F → Local (repeated n F)
repeated_local zero f = nothing_local []
repeated_local (suc n) f = through_local _ _ (and_local f (λ _. repeated_local n f))

-- so what was read is read of its own bytes alone, and fills them
pub alone : {R : Type 0} {F : Codec R} → Local F → (s : List ℕ) (at : ℕ) (r : R) (n : ℕ) → F.read s at ≡ got r n → (at ≤ n) × (F.read (take (n - at) (drop at s)) 0 ≡ got r (n - at))
alone {R} {F} f s at r n e = go (subst (Sound (Own F) s at) e (f.own s at))
  where
    go : Sound (Own F) s at (got r n) → (at ≤ n) × (F.read (take (n - at) (drop at s)) 0 ≡ got r (n - at))
    go (word {w} st g) =
        let long : n - at ≡ length w = omega (arith, st.till) in
        let is : take (length w) (drop at s) ≡ w = st.is in
        (omega (arith, st.till), rw (long, is) (g w 0 (length w) (front w [] (sym (append-nil w)) (omega arith))))
