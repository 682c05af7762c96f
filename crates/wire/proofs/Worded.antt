-- Values and records as they are answered: every part is by its bytes as a whole what the reading says, and begins where the layout puts it.
-- A value by its shape; a record by one induction over its fields.
-- Assumes nothing.
use mathlib.Core.Path.{◌≡◌, refl, ap, sym, ◌∙◌, subst}
use mathlib.Core.List.{List, [], ◌∷◌}
use Prim.Native.Nat.{ℕ, ◌+◌, ◌-◌, ◌*◌, ◌≤◌}
use native.Mathlib.Omega.{arith}
use lib.ListN.{length, take, drop, length-take, length-drop}
use Rattle.layout.specs.Answer.{Answer, got, refused, after, means}
use Rattle.layout.specs.Bytes.{Bytes}
use Rattle.layout.specs.Grammar.{Number, Repeat}
use Rattle.layout.proofs.laws.Make.{cells_all}
use Rattle.layout.proofs.laws.Numbers.{Bytes-take, Bytes-drop, zero_one}
use Rattle.layout.proofs.laws.Reading.{cells_take}
use Rattle.wire.specs.declared.Part.{Part}
use Rattle.wire.specs.Layout.{meaning, width, Shape, one, many, string, undef, shape}
use Rattle.wire.specs.Places.{num_at, text_at, array_at, items_in, Located, number_is, items, units, empty, shape_at, value_at, shape_in, row_at, row_in}
use Rattle.wire.specs.Worded.{Worded, items_slot, WordedValue, a_number, an_array, a_string, nothing, WordedRow, none, field}
use Rattle.wire.proofs.Agrees.{Ranged, array_ranged}
use Rattle.wire.proofs.laws.Formats.{value_format}
use Rattle.wire.proofs.Held.{worded}
use Rattle.wire.proofs.laws.Located.{values}
use Rattle.wire.proofs.Spelled.{Stood, text_stood}

module _ (s : List ℕ) (h : Bytes s) where
  -- items that lie within the bytes are as many numbers
  items_worded : (w : ℕ) (p : Part) → p.start + p.count * w ≤ length s → Worded (Repeat p.count (Number w)) s (items_slot w p) (items_in w s p)
  items_worded w p k =
      let part = take (p.count * w) (drop p.start s) in
      let long : length part ≡ p.count * w = omega (arith, length-take (p.count * w) (drop p.start s), length-drop p.start s) in
      let word = cells_all w p.count part (Bytes-take (p.count * w) (drop p.start s) (Bytes-drop p.start s h)) long in
      record { within = k; reads = rw (cells_take w p.count (drop p.start s)) at word }

  pub value_worded : (x : Shape) (at : ℕ) → at ≤ length s → (l : Located) (n : ℕ) → shape_at x s at ≡ got l n → WordedValue s at n x l (shape_in x s l)
  unfolding shape_at means
  value_worded (one k) at w l n e = go (num_at (width k) s at) e
    where
      go : (y : Answer ℕ) → means (λ m. number_is (meaning k m)) y ≡ got l n → WordedValue s at n (one k) l (shape_in (one k) s l)
      go (got m q) e = let is : number_is (meaning k m) ≡ l = cc in rw (← is) a_number
      go (refused t) e = zero_one (cc)
  value_worded (many k) at w l n e = go (array_at (width k) s at) (λ p q f. array_ranged (width k) s at p q f) e
    where
      go : (y : Answer Part) → ((p : Part) (q : ℕ) → got p q ≡ y → Ranged (width k) s at p q) → means items y ≡ got l n → WordedValue s at n (many k) l (shape_in (many k) s l)
      go (got p q) f e =
          let r = f p q refl in
          let is : items p ≡ l = cc in
          let till : q ≡ n = cc in
          rw (← is, ← till) (an_array r.begins r.ends (items_worded (width k) p (omega (arith, r.ends, r.within))))
      go (refused t) f e = zero_one (cc)
  value_worded string at w l n e = go (text_at s at) (λ p q f. text_stood s at p q f) e
    where
      go : (y : Answer Part) → ((p : Part) (q : ℕ) → got p q ≡ y → Stood s at p q) → means units y ≡ got l n → WordedValue s at n string l (shape_in string s l)
      go (got p q) f e =
          let st = f p q refl in
          let is : units p ≡ l = cc in
          rw (← is) (a_string st.begins (items_worded 2 p (omega (arith, st.fits, st.begins, st.within))))
      go (refused t) f e = zero_one (cc)
  value_worded undef at w l n e = let is : empty ≡ l = cc in rw (← is) nothing

  pub row_worded : (ts : List ℕ) (at : ℕ) → at ≤ length s → (ls : List Located) (n : ℕ) → row_at ts s at ≡ got ls n → WordedRow s ts at ls (row_in ts s ls) n
  unfolding row_at after means
  row_worded [] at w ls n e = let is : [] ≡ ls = cc in let till : at ≡ n = cc in rw (← is, ← till) none
  row_worded (t ∷ ts) at w ls n e = first (value_at t s at) refl e λ p q ks m f. row_worded ts p q ks m f
    where
      rest : (l : Located) (p : ℕ) → value_at t s at ≡ got l p → (y : Answer (List Located)) → row_at ts s p ≡ y → means (λ ks. l ∷ ks) y ≡ got ls n
          → ((p : ℕ) → p ≤ length s → (ks : List Located) (m : ℕ) → row_at ts s p ≡ got ks m → WordedRow s ts p ks (row_in ts s ks) m) → WordedRow s (t ∷ ts) at ls (row_in (t ∷ ts) s ls) n
      rest l p r (got ks m) f e onward =
          let is : l ∷ ks ≡ ls = cc in
          let till : m ≡ n = cc in
          let a = worded (value_format t) s h at w (shape_in (shape t) s l) p (sym ((values t).agrees s at) ∙ ap (means (shape_in (shape t) s)) r) in
          let far : p ≡ at + (p - at) = omega (arith, a.1) in
          rw (← is, ← till)
          (field a.0 (subst (λ q. WordedValue s at q (shape t) l (shape_in (shape t) s l)) far (value_worded (shape t) at w l p r)) (subst (λ q. WordedRow s ts q ks (row_in ts s ks) m) far (onward p a.2 ks m f)))
      rest l p r (refused u) f e onward = zero_one (cc)

      first : (x : Answer Located) → value_at t s at ≡ x → after x (λ l p. means (λ ks. l ∷ ks) (row_at ts s p)) ≡ got ls n
          → ((p : ℕ) → p ≤ length s → (ks : List Located) (m : ℕ) → row_at ts s p ≡ got ks m → WordedRow s ts p ks (row_in ts s ks) m) → WordedRow s (t ∷ ts) at ls (row_in (t ∷ ts) s ls) n
      first (got l p) r e onward = rest l p r (row_at ts s p) refl e onward
      first (refused u) r e onward = zero_one (cc)
