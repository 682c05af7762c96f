-- The n-th unit of a string and the n-th item of an array are those of the reading, of the functions' own answers at any place: `r` is any answer that the promise allows.
-- Assumes nothing.
use Rattle.wire.specs.Read.{Read, says_read}
use Rattle.wire.specs.declared.value.Value.{Value}
use mathlib.Core.Path.{◌≡◌, refl, ap, sym, ◌∙◌, subst}
use mathlib.Core.Bool.{Bool, true, false}
use mathlib.Core.List.{List}
use Prim.Native.Nat.{ℕ, zero, suc, ◌+◌, ◌*◌, ◌≤◌, ◌<◌}
use native.Mathlib.Nat.{mul-le-mul_right, suc-mul, zero-mul}
use native.Mathlib.Omega.{arith}
use borrow.Author.Tests.{ltb-true, ltb-false}
use lib.Dec.{ltb}
use lib.ListN.{length, take, drop, get_or, length-drop}
use lib.Seq.{drop-drop, split_at, length-take-le}
use Rattle.layout.specs.Answer.{Told, Answer, got, refused, pick, after, means, bare}
use Rattle.layout.specs.Bytes.{number, cells}
use Rattle.layout.specs.Faithful.{Prefix}
use Rattle.layout.specs.Grammar.{Number, Counted}
use Rattle.layout.specs.Refusals.{PLACE}
use Rattle.layout.proofs.laws.Meets.{complete_at}
use Rattle.layout.proofs.laws.Reading.{field_there}
use Rattle.layout.proofs.laws.Words.{part_there}
use Rattle.wire.specs.Asked.{NthOf, found, past}
use Rattle.wire.specs.Layout.{Kind, width, meaning, Text, Shape, one, many, string, undef, shape}
use Rattle.wire.specs.Places.{num_at, text_at, array_at, items_in, number_is, shape_at, unit_at, item_of, item_in, item_at}
use Rattle.wire.specs.Says.{says_value}
use Rattle.wire.specs.Typed.{ArrayType}
use Rattle.wire.specs.declared.Part.{Part}
use Rattle.wire.proofs.Agrees.{text_agrees, array_agrees, array_ranged}
use Rattle.wire.proofs.Spelled.{length_cells, text_stood}
use Rattle.wire.proofs.Typed.{array_shape, no_array}
use Rattle.wire.proofs.laws.Formats.{text_format, array_format}

-- the n-th cell stands behind n others
nth_cell : (w count n : ℕ) (s : List ℕ) → n < count → get_or (cells w count s) n 0 ≡ number (take w (drop (n * w) s))
unfolding cells
nth_cell w zero n s h = absurd (omega arith)
nth_cell w (suc count) zero s h = rw (zero-mul w)
nth_cell w (suc count) (suc n) s h =
    let far : w + n * w ≡ suc n * w = omega (arith, suc-mul n w) in
    nth_cell w count n (drop w s) (omega arith) ∙ ap (λ l. number (take w l)) (drop-drop (n * w) w s ∙ ap (λ m. drop m s) far)

-- what is answered of a part's n-th
abbrev asked : ℕ → List ℕ → Part → ℕ → Answer ℕ
asked w s p n = pick (ltb n p.count) (num_at w s (p.start + n * w)) (refused (bare PLACE))

-- of one that lies in the bytes
nth_of : (w : ℕ) (s : List ℕ) (p : Part) (n : ℕ) → p.start + p.count * w ≤ length s → NthOf (items_in w s p) p.start w n (asked w s p n)
nth_of w s p n fits = go (ltb n p.count) refl
  where
    many_are : length (items_in w s p) ≡ p.count
    many_are = length_cells w p.count (drop p.start s)

    go : (b : Bool) → ltb n p.count ≡ b → NthOf (items_in w s p) p.start w n (pick b (num_at w s (p.start + n * w)) (refused (bare PLACE)))
    go true e =
        let less = ltb-true n p.count e in
        let room : suc n * w ≤ p.count * w = mul-le-mul_right w less in
        let is : get_or (items_in w s p) n 0 ≡ number (take w (drop (p.start + n * w) s)) = nth_cell w p.count n (drop p.start s) less ∙ ap (λ l. number (take w l)) (drop-drop (n * w) p.start s) in
        subst (NthOf (items_in w s p) p.start w n) (ap (λ x. got x (p.start + n * w + w)) is ∙ sym (field_there w number s (p.start + n * w) (omega (arith, suc-mul n w))))
        (found (take n (items_in w s p)) (drop (suc n) (items_in w s p)) (get_or (items_in w s p) n 0) (split_at (items_in w s p) n 0 (omega (arith, many_are))) (length-take-le n (items_in w s p) (omega (arith, many_are))))
    go false e = past (omega (arith, ltb-false n p.count e, many_are))

-- of a string or an array that is read there as a part
module _ (s : List ℕ) (at n : ℕ) (l : Part) (q : ℕ) where
  unit_of_part : text_at s at ≡ got l q → NthOf (items_in 2 s l) (at + 1) 2 n (unit_at n s at)
  unfolding unit_at after
  unit_of_part e =
      let st = text_stood s at l q (sym e) in
      rw e (subst (λ b. NthOf (items_in 2 s l) b 2 n (asked 2 s l n)) st.begins (nth_of 2 s l n (omega (arith, st.ends, st.within))))

  item_of_part : (k : Kind) → array_at (width k) s at ≡ got l q
      → (y : Answer ℕ) × NthOf (items_in (width k) s l) (at + 4) (width k) n y × (item_in (many k) n s at ≡ means (λ i. number_is (meaning k i)) y)
  unfolding item_in item_of after shape_at means
  item_of_part k e =
      let g = array_ranged (width k) s at l q (sym e) in
      (asked (width k) s l n, subst (λ b. NthOf (items_in (width k) s l) b (width k) n (asked (width k) s l n)) g.begins (nth_of (width k) s l n (omega (arith, g.ends, g.within))), rw e (told (ltb n l.count) (num_at (width k) s (l.start + n * width k))))
    where
      told : (b : Bool) (z : Answer ℕ) → pick b (means (λ i. number_is (meaning k i)) z) (refused (bare PLACE)) ≡ means (λ i. number_is (meaning k i)) (pick b z (refused (bare PLACE)))
      told true z = refl
      told false z = refl

module _ (s : List ℕ) (at n : ℕ) where
  -- where a string with the units us stands
  pub unit_asked : (us : List ℕ) (m : ℕ) → Prefix Text (drop at s) us m → (r : (Read ℕ)) → says_read r ≡ unit_at n s at → NthOf us (at + 1) 2 n (says_read r)
  unit_asked us m p r promised =
      let (l, e, is) = complete_at text_format (items_in 2 s) (text_agrees s at) (part_there s at m (omega (arith, p.within, length-drop at s))) p.reads in
      subst (NthOf us (at + 1) 2 n) (sym promised) (subst (λ xs. NthOf xs (at + 1) 2 n (unit_at n s at)) is (unit_of_part s at n l (at + m) e))

  -- where none does, the string's own refusal
  pub unit_unread : (t : Told) → text_at s at ≡ refused t → (r : (Read ℕ)) → says_read r ≡ unit_at n s at → says_read r ≡ refused t
  unfolding unit_at after
  unit_unread t e r promised = promised ∙ rw e

  module _ (t : ℕ) (r : (Read Value)) (promised : says_value r ≡ item_at t n s at) where
    -- where an array with the numbers xs stands: the item's number, by its kind
    pub item_asked : {k : Kind} → ArrayType t k → (xs : List ℕ) (m : ℕ) → Prefix (Counted 4 (Number (width k))) (drop at s) xs m
        → (y : Answer ℕ) × NthOf xs (at + 4) (width k) n y × (says_value r ≡ means (λ i. number_is (meaning k i)) y)
    item_asked {k} a xs m p =
        let (l, e, is) = complete_at (array_format (width k)) (items_in (width k) s) (array_agrees s at (width k)) (part_there s at m (omega (arith, p.within, length-drop at s))) p.reads in
        let (y, nth, same) = item_of_part s at n l (at + m) k e in
        (y, subst (λ ns. NthOf ns (at + 4) (width k) n y) is nth, promised ∙ ap (λ x. item_in x n s at) (array_shape a).0 ∙ same)

    -- where none does, the array's own refusal
    pub item_unread : {k : Kind} → ArrayType t k → (u : Told) → array_at (width k) s at ≡ refused u → says_value r ≡ refused u
    unfolding item_in item_of after
    item_unread a u e = promised ∙ ap (λ x. item_in x n s at) (array_shape a).0 ∙ rw e

    -- 12 for a code that is no array's
    pub item_12 : ((k : Kind) → ArrayType t k → ⊥) → says_value r ≡ refused (bare PLACE)
    unfolding item_in
    item_12 other = promised ∙ go (shape t) refl
      where
        go : (x : Shape) → shape t ≡ x → item_in x n s at ≡ refused (bare PLACE)
        go (one k) e = refl
        go (many k) e = absurd (no_array t other k e)
        go string e = refl
        go undef e = refl
