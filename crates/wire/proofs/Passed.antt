-- Values passed by: one more of them, none of them, and numbers all at once.
-- Assumes nothing.
use mathlib.Core.Path.{◌≡◌, refl, ap, sym, ◌∙◌}
use mathlib.Core.List.{List, ◌∷◌}
use Prim.Native.Nat.{ℕ, zero, suc, ◌*◌, ◌<◌, ◌≤◌}
use native.Mathlib.Nat.{add-zero, zero-mul}
use native.Mathlib.Omega.{arith}
use lib.ListN.{take, drop}
use Rattle.layout.specs.Answer.{Told, Answer, got, refused, after, means, span_at, field_at}
use Rattle.layout.specs.Bytes.{number}
use Rattle.layout.specs.Codec.{repeated}
use Rattle.layout.proofs.laws.Make.{span_there}
use Rattle.layout.proofs.laws.Reading.{cut_at, span_more}
use Rattle.layout.proofs.laws.Numbers.{zero_one}
use Rattle.wire.specs.Layout.{Kind, width, meaning, one, undef, shape, Val}
use Rattle.wire.specs.Codecs.{value}
use Rattle.wire.specs.Places.{Located, number_is, empty, shape_at, value_at, shape_in}
use Rattle.wire.specs.Property.{between, passed_at, values_at}
use Rattle.wire.proofs.Described.{values_from}
use Rattle.wire.proofs.laws.Located.{values}

module _ (t : ℕ) (s : List ℕ) where
  -- one more: by the first value's own answer
  passed_first : (n at : ℕ) (x : Answer Located) → x ≡ value_at t s at → passed_at t (suc n) s at ≡ after x (λ _ p. passed_at t n s p)
  unfolding passed_at after means
  passed_first n at x e = rw (← (values t).agrees s at, ← e) (go x)
    where
      rest : (v : Val) (y : Answer (List Val)) → means (λ _. tt {0}) (means (λ (z : Val × List Val). z.0 ∷ z.1) (means (λ vs. (v, vs)) y)) ≡ means (λ _. tt {0}) y
      rest v (got vs q) = refl
      rest v (refused u) = refl

      go : (x : Answer Located) → means (λ _. tt {0}) (means (λ (z : Val × List Val). z.0 ∷ z.1) (after (means (shape_in (shape t) s) x) λ v p. means (λ vs. (v, vs)) ((repeated n (value t)).read s p))) ≡ after x (λ _ p. means (λ _. tt {0}) ((repeated n (value t)).read s p))
      go (got l p) = rest (shape_in (shape t) s l) ((repeated n (value t)).read s p)
      go (refused u) = refl

  pub passed_none : (at : ℕ) → passed_at t 0 s at ≡ got tt at
  unfolding passed_at means
  passed_none at = refl

  pub passed_more : (n at : ℕ) (l : Located) (p : ℕ) → got l p ≡ value_at t s at → passed_at t (suc n) s at ≡ passed_at t n s p
  unfolding after
  passed_more n at l p e = passed_first n at (got l p) e

  pub passed_bad : (n at : ℕ) (u : Told) → refused u ≡ value_at t s at → passed_at t (suc n) s at ≡ refused u
  unfolding after
  passed_bad n at u e = passed_first n at (refused u) e

  pub passed_undef : undef ≡ shape t → (n at : ℕ) → passed_at t n s at ≡ got tt at
  unfolding shape_at
  passed_undef e zero at = passed_none at
  passed_undef e (suc n) at = passed_more n at empty at (ap (λ x. shape_at x s at) e) ∙ passed_undef e n at

  -- n numbers are one span of all their bytes; cut, it is told of the first that is not whole
  module _ (k : Kind) (e : one k ≡ shape t) (some : 0 < width k) where
    pub passed_numbers : (n at : ℕ) → span_at (cut_at (width k) s at) (n * width k) s at ≡ passed_at t n s at
    unfolding after field_at shape_at means
    passed_numbers zero at = rw (zero-mul, span_there (cut_at (width k) s at) 0 s at (omega arith), add-zero, passed_none)
    passed_numbers (suc n) at = sym (span_more (width k) some n s at) ∙ go (span_at at (width k) s at) refl (passed_numbers n)
      where
        go : (x : Answer (Unit {0})) → span_at at (width k) s at ≡ x → ((p : ℕ) → span_at (cut_at (width k) s p) (n * width k) s p ≡ passed_at t n s p)
            → after x (λ _ p. span_at (cut_at (width k) s p) (n * width k) s p) ≡ passed_at t (suc n) s at
        go (got u p) is others =
            let first : got (number_is (meaning k (number (take (width k) (drop at s))))) p ≡ shape_at (one k) s at = rw is in
            others p ∙ sym (passed_more n at _ p (first ∙ ap (λ x. shape_at x s at) e))
        go (refused u) is others =
            let first : refused u ≡ shape_at (one k) s at = rw is in
            sym (passed_bad n at u (first ∙ ap (λ x. shape_at x s at) e))

  -- ── as a reader hands them out ──

  pub values_got : (m at n : ℕ) → got tt n ≡ passed_at t m s at → got (between at n) n ≡ values_at t m s at
  unfolding passed_at values_at means after
  values_got m at n e = go ((repeated m (value t)).read s at) e
    where
      go : (x : Answer (List Val)) → got tt n ≡ means (λ _. tt {0}) x → got (between at n) n ≡ after x (λ _ k. got (between at k) k)
      go (got v k) e = let f : n ≡ k = cc in rw f
      go (refused u) e = zero_one (cc)

  pub values_refused : (m at : ℕ) (u : Told) → refused u ≡ passed_at t m s at → refused u ≡ values_at t m s at
  unfolding passed_at values_at means after
  values_refused m at u e = go ((repeated m (value t)).read s at) e
    where
      go : (x : Answer (List Val)) → refused u ≡ means (λ _. tt {0}) x → refused u ≡ after x (λ _ k. got (between at k) k)
      go (got v k) e = zero_one (cc)
      go (refused w) e = cc

  -- they end no earlier than they begin
  pub values_ahead : (m at n : ℕ) → got tt n ≡ passed_at t m s at → at ≤ n
  unfolding passed_at means
  values_ahead m at n e = go ((repeated m (value t)).read s at) (λ vs k f. values_from t m s at vs k f) e
    where
      go : (x : Answer (List Val)) → ((vs : List Val) (k : ℕ) → x ≡ got vs k → at ≤ k) → got tt n ≡ means (λ _. tt {0}) x → at ≤ n
      go (got vs k) f e = let g : n ≡ k = cc in omega (arith, f vs k refl)
      go (refused u) f e = zero_one (cc)
