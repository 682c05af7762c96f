-- The three numbers of a range, where the description says that they stand: read there they are the reading's own.
-- Assumes nothing.
use Rattle.std.proofs.Common.{◌≡◌, ℕ, ◌+◌, ◌-◌, ◌^◌, ◌<◌, ◌≤◌, Bool, true, false, eqb, List, [], length, take, drop, sym, refl, ap, ◌∙◌, subst, arith, length-drop, length-take-le, take_all, eq-eqb}
use Rattle.layout.specs.Answer.{Answer, got, refused, pick, after, means}
use Rattle.layout.specs.Bytes.{Bytes, number}
use Rattle.layout.specs.Codec.{repeated}
use Rattle.layout.proofs.laws.Accepted.{accepted, accepts_field}
use Rattle.layout.proofs.laws.Reading.{parted, unmeant, field_there}
use Rattle.layout.proofs.laws.Numbers.{zero_one}
use Rattle.wire.specs.Codecs.{shaped, value}
use Rattle.wire.specs.Description as placed
use Rattle.wire.specs.Description.{PropInfo}
use Rattle.wire.specs.Layout.{Kind, width, meaning, one, shape, Val, num}
use Rattle.wire.specs.Places.{num_at, number_is, shape_at, value_at}
use Rattle.wire.specs.Property.{between, slot_in, values_at, slot_at, range_at, list_at, form_at, property_at, enable_at}
use Rattle.wire.specs.declared.property.Slot.{Slot}
use Rattle.wire.proofs.laws.Contained.{accepts_small}

-- a number that is read where a slot starts, and is what the slot means
pub record Stood (k : Kind) (t : ℕ) (s : List ℕ) (p : Slot) : Type 0 where
  pub number : ℕ
  pub end : ℕ
  pub read : value_at t s p.start ≡ got (number_is (meaning k number)) end
  pub means : slot_in t s p ≡ num (meaning k number)
  pub small : number < 256 ^ width k

module _ (k : Kind) (t : ℕ) (kind : shape t ≡ one k) (s : List ℕ) (h : Bytes s) where
  numbered : (at m n : ℕ) → num_at (width k) s at ≡ got m n → Stood k t s (between at n)
  unfolding shape_at means
  numbered at m n e =
      let f = accepted (λ a n. (width k ≤ length s - at) × (n ≡ at + width k)) (accepts_field (width k) number s at) (sym e) in
      let size : n - at ≡ width k = omega (arith, f.1) in
      let w = take (width k) (drop at s) in
      let long : length w ≡ width k = length-take-le (width k) (drop at s) (omega (arith, length-drop at s, f.0)) in
      let there = field_there (width k) number s at f.0 in
      let is : m ≡ number w = cc in
      let all : take (width k) w ≡ w = take_all (width k) w (omega (arith, long)) in
      let zero : 0 + width k ≡ width k = omega arith in
      let word : (shaped (one k)).read w 0 ≡ got (num (meaning k m)) (width k) = rw (field_there (width k) number w 0 (omega (arith, long)), all, ← is, zero) in
      record {
        number = m;
        end = n;
        read = rw (kind, e);
        means = rw (kind, size, word, eq-eqb (width k) (width k) refl);
        small = accepted (λ v n. v < 256 ^ width k) (accepts_small (width k) s h at) (sym e);
      }

  pub slotted : (at : ℕ) (p : Slot) (n : ℕ) → slot_at t s at ≡ got p n → Stood k t s p
  unfolding values_at means after
  slotted at p n e =
      let a = parted ((repeated 1 (value t)).read s at) _ e in
      let b = unmeant _ (after ((value t).read s at) λ v q. means (λ (vs : List Val). (v, vs)) (got [] q)) a.2 in
      let c = parted ((value t).read s at) _ b.1 in
      let d = unmeant (λ m. num (meaning k m)) (num_at (width k) s at) (subst (λ y. (shaped y).read s at ≡ got c.0 c.1) kind c.2) in
      let same : a.1 ≡ c.1 = cc c.3 in
      let is : p ≡ between at c.1 = cc a.3 in
      subst (Stood k t s) (sym is) (numbered at d.0 c.1 d.1)

-- ── the form of a description ──

module _ (t : ℕ) (s : List ℕ) (a b c : Slot) where
  -- the three of a range, each read as a slot
  pub record Three : Type 0 where
    pub low : (at n : ℕ) × (slot_at t s at ≡ got a n)
    pub high : (at n : ℕ) × (slot_at t s at ≡ got b n)
    pub step : (at n : ℕ) × (slot_at t s at ≡ got c n)

  range_three : (at n : ℕ) → range_at t s at ≡ got (placed.range a b c) n → Three
  unfolding range_at
  range_three at n e =
      let x = parted (slot_at t s at) _ e in
      let y = parted (slot_at t s x.1) _ x.3 in
      let z = parted (slot_at t s y.1) _ y.3 in
      let f : x.0 ≡ a = cc z.3 in
      let g : y.0 ≡ b = cc z.3 in
      let h : z.0 ≡ c = cc z.3 in
      record {
        low = (at, x.1, x.2 ∙ ap (λ q. got q x.1) f);
        high = (x.1, y.1, y.2 ∙ ap (λ q. got q y.1) g);
        step = (y.1, z.1, z.2 ∙ ap (λ q. got q z.1) h);
      }

  form_three : (at n : ℕ) → form_at t s at ≡ got (placed.range a b c) n → Three
  unfolding form_at list_at
  form_three at n e =
      let x = parted (num_at 1 s at) _ e in
      first x.1 (eqb x.0 1) (eqb x.0 2) x.3
    where
      first : (p : ℕ) (y z : Bool) → pick y (range_at t s p) (pick z (list_at t s p) (got placed.absent p)) ≡ got (placed.range a b c) n → Three
      first p true z e = range_three p n e
      first p false true e =
          let u = parted (num_at 2 s p) _ e in
          let v = parted (values_at t u.0 s u.1) _ u.3 in
          zero_one (cc v.3)
      first p false false e = zero_one (cc)

pub property_three : (there : Bool) (s : List ℕ) (x : PropInfo) (n : ℕ) → property_at there s 0 ≡ got x n → (a b c : Slot) → x.form ≡ placed.range a b c → Three x.data_type s a b c
unfolding property_at
property_three there s x n e a b c f =
    let c1 = parted (num_at 2 s 0) _ e in
    let c2 = parted (num_at 2 s c1.1) _ c1.3 in
    let c3 = parted (num_at 1 s c2.1) _ c2.3 in
    let c4 = parted (enable_at there s c3.1) _ c3.3 in
    let c5 = parted (slot_at c2.0 s c4.1) _ c4.3 in
    let c6 = parted (slot_at c2.0 s c5.1) _ c5.3 in
    let c7 = parted (form_at c2.0 s c6.1) _ c6.3 in
    let type : c2.0 ≡ x.data_type = ap of_type c7.3 in
    let form : c7.0 ≡ placed.range a b c = ap of_form c7.3 ∙ f in
    subst (λ u. Three u s a b c) type (form_three c2.0 s a b c c6.1 c7.1 (c7.2 ∙ ap (λ q. got q c7.1) form))
  where
    of_type : Answer PropInfo → ℕ
    of_type (got y m) = y.data_type
    of_type (refused u) = 0

    of_form : Answer PropInfo → placed.Form
    of_form (got y m) = y.form
    of_form (refused u) = placed.absent
