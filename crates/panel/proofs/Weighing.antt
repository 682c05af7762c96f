-- What the form of a description allows, as the code tests it: a range by the words of its numbers, a list step by step.
-- Assumes nothing.
use Rattle.std.proofs.Common.{◌≡◌, ℕ, suc, ◌+◌, ◌-◌, ◌^◌, ◌<◌, ◌≤◌, Bool, true, false, eqb, ltb, List, ℤ, pos, negsuc, sym, refl, ap, ◌∙◌, subst, arith, Bor, ltb-false, ltb-true, eq-eqb, eqb-true}
use mathlib.Core.Option.{some}
use lib.Signed.{mag}
use Rattle.layout.specs.Answer.{Answer, Told, got, refused, pick, after, means, bare}
use Rattle.layout.specs.Bytes.{Bytes}
use Rattle.layout.specs.Grammar.{loose}
use Rattle.layout.proofs.laws.Accepted.{accepted}
use Rattle.layout.proofs.laws.Meets.{filled, reads_exactly}
use Rattle.layout.proofs.laws.Reading.{at_most, parted, picked, unmeant, one_got}
use Rattle.layout.proofs.laws.Numbers.{zero_one}
use Rattle.session.specs.Payloads.{filling}
use Rattle.wire.specs.Description as placed
use Rattle.wire.specs.Description.{PropInfo}
use Rattle.wire.specs.Layout as L
use Rattle.wire.specs.Layout.{Kind, sint, uint, width, meaning, Shape, one, shape, Val, num, Value, Reading}
use Rattle.wire.specs.List.{place_from, place_of, list_at}
use Rattle.wire.specs.Places.{num_at, Located, number_is, shape_at, value_at, shape_in, filled_at}
use Rattle.wire.specs.Property.{property_at, property_in}
use Rattle.wire.specs.Worded.{Yields}
use Rattle.wire.specs.declared.property.Slot.{Slot}
use Rattle.wire.proofs.laws.Contained.{accepts_small}
use Rattle.wire.proofs.laws.Formats.{value_format}
use Rattle.wire.proofs.laws.Located.{values, filled_end}
use Rattle.wire.proofs.laws.Nths.{its, steps}
use Rattle.panel.specs.Panel.{is_undef, is_range, integral, suits, Suited, StandsAs, reading_of, value_of, weighed, Chosen, chosen_in}
use Rattle.panel.specs.Refusals.{TYPE, VALUE}
use Rattle.panel.specs.Test.{integer, allows}
use Rattle.panel.specs.Words.{whole_of, whole_from, whole_range, rest, Gives, Finds}
use Rattle.panel.proofs.Slots.{slotted, Three, property_three}
use Rattle.panel.proofs.Spans.{whole, Fit, signed, natural, word_range}
use Rattle.panel.proofs.Types.{Small, small}
use Rattle.panel.proofs.Types as types

-- ── the integers of a type ──

-- each number of the type is an integer, by its sign and word, and one that the type has
record Integers (k : Kind) : Type 0 where
  side : Bool
  of : ℕ → ℤ
  word : (m : ℕ) → whole_of (number_is (meaning k m)) ≡ whole (of m)
  is : (m : ℕ) → integer (num (meaning k m)) ≡ some (of m)
  fit : (m : ℕ) → m < 256 ^ width k → Fit side (of m)

signed_fit : (full m : ℕ) → full ≤ 2 ^ 64 → m < full → mag (L.signed full m) < 2 ^ 63
unfolding L.signed
signed_fit full m h k = go (ltb (m + m) full) refl
  where
    go : (b : Bool) → ltb (m + m) full ≡ b → mag (pick b (pos m) (negsuc (full - suc m))) < 2 ^ 63
    go true e = omega (arith, ltb-true (m + m) full e)
    go false e = omega (arith, ltb-false (m + m) full e)

integers : {x : Shape} → Small x → (k : Kind) × (x ≡ one k) × Integers k
integers (types.signed w h) = (
  sint w,
  refl,
  record { side = true; of = L.signed (256 ^ w); word = λ m. refl; is = λ m. refl; fit = λ m l. signed (signed_fit (256 ^ w) m (at_most 8 h) l) },
)
integers (types.unsigned w h) = (uint w, refl, record { side = false; of = pos; word = λ m. refl; is = λ m. refl; fit = λ m l. natural {n = m} (omega (arith, at_most 8 h)) })

-- ── chosen bytes ──

-- those that one value fills are a word of it
is_word : (t : ℕ) (s : List ℕ) → Bytes s → (l : Located) (n : ℕ) → filling (value_at t) s ≡ got l n → Value t loose s (shape_in (shape t) s l)
unfolding filling
is_word t s h l n e =
    let a = parted (value_at t s 0) _ e in
    let b = parted (filled_at s a.1) _ a.3 in
    let word = filled ((reads_exactly (value_format t) (values t) s h (value_at t s 0) refl).accepts a.0 a.1 a.2) (filled_end s a.1 b.1 b.2) in
    subst (λ x. Value t loose s (shape_in (shape t) s x)) (one_got b.3).0 word

-- ── a range ──

-- chosen bytes that are one number
chosen_number : (k : Kind) (t : ℕ) → shape t ≡ one k → (s : List ℕ) → Bytes s → (l : Located) → StandsAs t s l → (m : ℕ) × (l ≡ number_is (meaning k m)) × (m < 256 ^ width k)
unfolding filling shape_at
chosen_number k t kind s h l st =
    let a = parted (value_at t s 0) _ st.1 in
    let b = parted (filled_at s a.1) _ a.3 in
    let same : l ≡ a.0 = cc b.3 in
    let c = unmeant (λ m. number_is (meaning k m)) (num_at (width k) s 0) (subst (λ y. shape_at y s 0 ≡ got a.0 a.1) kind a.2) in
    (c.0, same ∙ sym c.2, accepted (λ v n. v < 256 ^ width k) (accepts_small (width k) s h 0) (sym c.1))

-- a range that suits its type is of integers
suits_range : (d : List ℕ) (x : PropInfo) → Suited d x → (a b c : Slot) → x.form ≡ placed.range a b c → integral x.data_type ≡ true
unfolding suits
suits_range d x s a b c f = go (is_undef (shape t)) (rw (eq-eqb t t refl, f) at s.suits)
  where
    t : ℕ
    t = x.data_type

    go : (u : Bool) → pick u false (integral t) ≡ true → integral t ≡ true
    go true e = zero_one (cc)
    go false e = e

module _ (d chosen : List ℕ) (h : Bytes d) (g : Bytes chosen) (x : PropInfo) (s : Suited d x) (l : Located) (st : StandsAs x.data_type chosen l) where
  abbrev t : ℕ
  t = x.data_type

  pub range_allows : (a b c : Slot) → x.form ≡ placed.range a b c →
      whole_range (whole_from (value_at t d a.start)) (whole_from (value_at t d b.start)) (whole_from (value_at t d c.start)) (whole_of l) ≡ allows (property_in d x).form (shape_in (shape t) chosen l)
  unfolding allows
  range_allows a b c f = go (integers (small t (suits_range d x s a b c f)))
    where
      three : Three t d a b c
      three = property_three s.there d x s.end s.read a b c f

      go : (k : Kind) × (shape t ≡ one k) × Integers k → whole_range (whole_from (value_at t d a.start)) (whole_from (value_at t d b.start)) (whole_from (value_at t d c.start)) (whole_of l) ≡ allows (property_in d x).form (shape_in (shape t) chosen l)
      go y =
          let k = y.0 in
          let i = y.2 in
          let low = slotted k t y.1 d h three.low.0 a three.low.1 three.low.2 in
          let high = slotted k t y.1 d h three.high.0 b three.high.1 three.high.2 in
          let step = slotted k t y.1 d h three.step.0 c three.step.1 three.step.2 in
          let v = chosen_number k t y.1 chosen g l st in
          rw (f, low.read, high.read, step.read, low.means, high.means, step.means, v.1, i.word low.number, i.word high.number, i.word step.number, i.word v.0, i.is low.number, i.is high.number, i.is step.number, i.is v.0)
          (word_range i.side (i.of low.number) (i.of high.number) (i.of v.0) (i.fit low.number low.small) (i.fit high.number high.small) (i.fit v.0 v.2) (i.of step.number))

  -- ── a list ──

  module _ (p : Slot) (n : ℕ) (f : x.form ≡ placed.list p n) (r : Bor (List ℕ)) (is : r.now ≡ d) where
    listed : Yields t d (rest r t p.start n) (its s.there d h x s.end s.read)
    listed =
        let place : place_of s.there d ≡ record { ty = t; at = p.start; left = n; refusal = 0 } = ap place_from s.read ∙ rw f in
        steps s.there d h x s.end s.read r is (rest r t p.start n) (ap (list_at r) (sym place))

    pub list_gives : Gives t (rest r t p.start n)
    list_gives = (its s.there d h x s.end s.read, subst (λ e. Yields t e (rest r t p.start n) (its s.there d h x s.end s.read)) (sym is) listed)

    pub list_allows : (b : Bool) → Finds t (rest r t p.start n) chosen b → b ≡ allows (property_in d x).form (shape_in (shape t) chosen l)
    unfolding allows list_gives
    list_allows b q = q.finds (its s.there d h x s.end s.read) (shape_in (shape t) chosen l) list_gives.1 (is_word t chosen g l st.0 st.1) ∙ rw f

  -- ── no form ──

  pub none_allows : x.form ≡ placed.absent → true ≡ allows (property_in d x).form (shape_in (shape t) chosen l)
  unfolding allows
  none_allows f = rw f

-- ── the order ──

suits_type : (r : Reading) (t : ℕ) → suits r t ≡ true → t ≡ r.type
unfolding suits
suits_type r t e = go (eqb t r.type) refl e
  where
    go : (b : Bool) → eqb t r.type ≡ b → pick b (pick (is_undef (shape t)) false (pick (is_range r.form) (integral t) true)) false ≡ true → t ≡ r.type
    go true f e = eqb-true t r.type f
    go false f e = zero_one (cc)

module _ (there : Bool) (d chosen : List ℕ) (t : ℕ) (x : PropInfo) (n : ℕ) (read : property_at there d 0 ≡ got x n) where
  module _ (fine : suits (property_in d x) t ≡ true) where
    pub suited : Suited d x
    suited = record { there = there; end = n; read = read; suits = subst (λ u. suits (property_in d x) u ≡ true) (suits_type (property_in d x) t fine) fine }

    pub chosen_weighed : weighed d x chosen ≡ means (λ (c : Chosen). c.property) (chosen_in there d t chosen)
    unfolding weighed chosen_in reading_of means after
    chosen_weighed = rw (read, fine, suits_type (property_in d x) t fine) (go (value_of x.data_type chosen))
      where
        last : (v : Val) (m : ℕ) (b : Bool) → pick b (got x.property_code m) (refused (bare VALUE)) ≡ means (λ (c : Chosen). c.property) (pick b (got (record { property = x.property_code; value = v }) m) (refused (bare VALUE)))
        last v m true = refl
        last v m false = refl

        go : (y : Answer Val) → after y (λ v m. pick (allows (property_in d x).form v) (got x.property_code m) (refused (bare VALUE)))
            ≡ means (λ (c : Chosen). c.property) (after y λ v m. pick (allows (property_in d x).form v) (got (record { property = x.property_code; value = v }) m) (refused (bare VALUE)))
        go (got v m) = last v m (allows (property_in d x).form v)
        go (refused u) = refl

  pub chosen_other : suits (property_in d x) t ≡ false → chosen_in there d t chosen ≡ refused (bare TYPE)
  unfolding chosen_in reading_of means after
  chosen_other other = rw (read, other)

pub chosen_unread : (there : Bool) (d chosen : List ℕ) (t : ℕ) (u : Told) → property_at there d 0 ≡ refused u → chosen_in there d t chosen ≡ refused u
unfolding chosen_in reading_of means after
chosen_unread there d chosen t u read = rw read

-- what is chosen of a type is a whole value of it
pub chosen_word : (there : Bool) (d chosen : List ℕ) → Bytes chosen → (t : ℕ) (c : Chosen) (n : ℕ) → chosen_in there d t chosen ≡ got c n → Value t loose chosen c.value
unfolding chosen_in value_of
chosen_word there d chosen h t c n e =
    let a = parted (reading_of there d) _ e in
    let s = picked (suits a.0 t) _ _ a.3 in
    let b = parted (value_of t chosen) _ s.1 in
    let c = picked (allows a.0.form b.0) _ _ b.3 in
    let l = unmeant (shape_in (shape t) chosen) (filling (value_at t) chosen) b.2 in
    subst (Value t loose chosen) (l.2 ∙ ap (λ (y : Chosen). y.value) (one_got c.1).0) (is_word t chosen h l.0 b.1 l.1)
