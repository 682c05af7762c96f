-- How long paired units are in UTF-8: as long as each by itself. A unit that is no surrogate is one code point; a high one and the low one that
-- follows are one of four bytes, two for each. And of a string that was read the units pair.
-- Assumes nothing.
use mathlib.Core.Path.{◌≡◌, refl, ap, ◌∙◌}
use mathlib.Core.Bool.{Bool, true, false}
use mathlib.Core.List.{List, [], ◌∷◌}
use Prim.Native.Nat.{ℕ, ◌+◌, ◌/◌}
use native.Mathlib.Omega.{arith}
use borrow.Author.Tests.{eq-eqb, ne_eqb, eqb-true, eqb-false, not-true}
use lib.ListN.{length, length-append}
use Rattle.layout.specs.Answer.{got, pick}
use Rattle.layout.specs.Bytes.{Bytes}
use Rattle.layout.proofs.laws.Numbers.{zero_one}
use Rattle.wire.specs.declared.Part.{Part}
use Rattle.wire.specs.Layout.{high, low, follows, pairs, paired}
use Rattle.wire.specs.Places.{text_at}
use Rattle.wire.specs.Utf8.{pair_point, points, encoded, encoded_all, utf8, Units, unit_len}
use Rattle.wire.proofs.Spelled.{text_stood}
use Rattle.wire.proofs.laws.Points.{four_is, utf8_alone, utf8_pair, text_few}

unfoldable pub units_len : List ℕ → ℕ
units_len [] = 0
units_len (u ∷ us) = unit_len u + units_len us

pub alone_long : (u : ℕ) → (u / 1024 ≡ 54 → ⊥) → (u / 1024 ≡ 55 → ⊥) → unit_len u ≡ length (encoded u)
unfolding unit_len
alone_long u f g = rw (ne_eqb (u / 2048) 27 (λ e. omega (arith, f, g)))

pub half_long : (u : ℕ) → u / 2048 ≡ 27 → unit_len u ≡ 2
unfolding unit_len
half_long u e = rw (eq-eqb (u / 2048) 27 e)

-- the first follows, and the others pair after it
pairs_both : (p u : ℕ) (us : List ℕ) → pairs p (u ∷ us) ≡ true → (follows p u ≡ true) × (pairs u us ≡ true)
unfolding pairs
pairs_both p u us e = go (follows p u) refl e
  where
    go : (b : Bool) → follows p u ≡ b → pick b (pairs u us) false ≡ true → (follows p u ≡ true) × (pairs u us ≡ true)
    go true f e = (f, e)
    go false f e = zero_one (cc)

-- what is left is as long as it is
none_long : length (utf8 []) ≡ 0
unfolding utf8 points encoded_all
none_long = refl

alone_on : (u : ℕ) (us : List ℕ) → (u / 1024 ≡ 54 → ⊥) → (u / 1024 ≡ 55 → ⊥) → length (utf8 us) ≡ units_len us → length (utf8 (u ∷ us)) ≡ unit_len u + units_len us
alone_on u us f g e = rw (alone_long u f g, ← e) (ap length (utf8_alone u us f) ∙ length-append (encoded u) (utf8 us))

pair_on : (u v : ℕ) (us : List ℕ) → u / 1024 ≡ 54 → v / 1024 ≡ 55 → length (utf8 us) ≡ units_len us → length (utf8 (u ∷ v ∷ us)) ≡ unit_len u + (unit_len v + units_len us)
pair_on u v us f g e =
    let four = ap length (four_is (pair_point u v) (omega arith)) in
    rw (half_long u (omega arith), half_long v (omega arith), ← e) (omega (arith, ap length (utf8_pair u v us f), length-append (encoded (pair_point u v)) (utf8 us), four))

-- after a unit that is no high one
long_after : (p : ℕ) (us : List ℕ) → high p ≡ false → pairs p us ≡ true → length (utf8 us) ≡ units_len us
unfolding units_len pairs
long_after p [] hp e = none_long
long_after p (u ∷ []) hp e =
    let both = pairs_both p u [] e in
    alone_on u [] (eqb-false (u / 1024) 54 (not-true (high u) both.1)) (eqb-false (u / 1024) 55 (not-true (low u) (rw hp at both.0))) none_long
long_after p (u ∷ v ∷ us) hp e = go (high u) refl (long_after v us) (long_after u (v ∷ us))
  where
    first : (follows p u ≡ true) × (pairs u (v ∷ us) ≡ true)
    first = pairs_both p u (v ∷ us) e

    go : (b : Bool) → high u ≡ b → (high v ≡ false → pairs v us ≡ true → length (utf8 us) ≡ units_len us)
        → (high u ≡ false → pairs u (v ∷ us) ≡ true → length (utf8 (v ∷ us)) ≡ units_len (v ∷ us)) → length (utf8 (u ∷ v ∷ us)) ≡ units_len (u ∷ v ∷ us)
    go true hu after-v after-u =
        let both = pairs_both u v us first.1 in
        let is-low = eqb-true (v / 1024) 55 (rw hu at both.0) in
        pair_on u v us (eqb-true (u / 1024) 54 hu) is-low (after-v (ne_eqb (v / 1024) 54 (λ f. omega arith)) both.1)
    go false hu after-v after-u = alone_on u (v ∷ us) (eqb-false (u / 1024) 54 hu) (eqb-false (u / 1024) 55 (not-true (low u) (rw hp at first.0))) (after-u hu first.1)

pub units_long : (us : List ℕ) → paired us ≡ true → length (utf8 us) ≡ units_len us
units_long us e = long_after 0 us refl e

pub text_units : (s : List ℕ) → Bytes s → (at : ℕ) (part : Part) (n : ℕ) → got part n ≡ text_at s at → Units s part.start part.count
text_units s h at part n e = let stood = text_stood s at part n e in record { there = stood.fits; few = text_few s h at part n e; pair = stood.pair }
