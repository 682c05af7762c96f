-- What is written from numbers is a word of the grammar: a string by its units, an array by its items (an integer: laws/Integers). And a refusal is given exactly where the paper has it.
-- Assumes nothing.
use mathlib.Core.Path.{◌≡◌, refl, ap, sym, ◌∙◌, subst}
use mathlib.Core.Bool.{Bool, true, false}
use mathlib.Core.Logic.{◌↔◌}
use mathlib.Core.List.{List, [], ◌∷◌, ◌++◌, map}
use mathlib.Core.Option.{Option, none}
use Prim.Native.Nat.{ℕ, zero, suc, ◌+◌, ◌-◌, ◌*◌, ◌/◌, ◌%◌, ◌≤◌, ◌<◌}
use native.Mathlib.Nat.{div-add-mod', mul-mod_left, mul-div_cancel}
use native.Mathlib.Omega.{arith}
use borrow.Author.Tests.{leb-true, leb-false, eqb-true, eqb-false}
use lib.Dec.{T, leb, eqb, lit≤}
use lib.ListN.{length, get_or}
use Rattle.layout.specs.Answer.{Told, pick, bare}
use Rattle.layout.specs.Bytes.{Bytes, bytes, cells}
use Rattle.layout.specs.Grammar.{loose, tidy, empty, Number, num, both, lead, such, as', Repeat, Counted}
use Rattle.layout.specs.Refusals.{TEXT, COUNT, PLACE}
use Rattle.layout.specs.Written.{Said, says, no}
use Rattle.layout.proofs.laws.Make.{cells_all}
use Rattle.layout.proofs.laws.Numbers.{zero_one}
use Rattle.wire.specs.Layout.{Kind, sint, uint, wide, width, meaning, paired, Text, kinds, STR, Shape, one, many, string, undef, shape_or, shape, nums, Shaped, Value}
use Rattle.wire.specs.Codecs.{text, array}
use Rattle.wire.specs.Given.{text_said, items_said, shape_said, array_said}
use Rattle.wire.specs.Patterns.{Units16}
use Rattle.wire.specs.Tidy.{spelled}
use Rattle.wire.specs.Typed.{ArrayType, aint8, auint8, aint16, auint16, aint32, auint32, aint64, auint64, aint128, auint128, Items}
use Rattle.wire.proofs.Encoded.{text_pairs}
use Rattle.wire.proofs.laws.Formats.{text_format, array_format}
use Rattle.wire.proofs.laws.Kinds.{KindAt, a_kind, no_kind, kind_at}
use Rattle.wire.proofs.laws.Numbered.{said_unpaired, said_long, said_text, said_part, said_many, said_items, items_stand}

-- ── strings ──

units_there : (us : List ℕ) → Units16 us → (w : List ℕ) × Repeat (length us) (Number 2) loose w us
units_there [] h = ([], empty)
units_there (u ∷ us) h = let r = units_there us h.1 in (bytes 2 u ++ r.0, as' (both (num h.0) r.1))

true_tested : (b : Bool) → b ≡ true → T b
true_tested true e = tt
true_tested false e = zero_one (cc)

text_there : (us : List ℕ) → Units16 us → paired us ≡ true → length us ≤ 254 → (w : List ℕ) × Text loose w us
text_there [] h p l = (bytes 1 0 ++ [], lead {a = 0} (num {n = 0} (omega arith)) tt empty)
text_there (u ∷ us) h p l =
    let r = units_there (u ∷ us) h in
    let n = length (u ∷ us) in (
      bytes 1 (suc n) ++ (r.0 ++ (bytes 2 0 ++ [])),
      lead {a = suc n} (num {n = suc n} (omega arith)) tt (such (true_tested (paired (u ∷ us)) p) (as' {a = (u ∷ us, tt)} (both r.1 (lead {a = 0} (num {n = 0} (omega arith)) tt empty)))),
    )

-- what a tidy string is of
text_facts : (w us : List ℕ) → Text tidy w us → (paired us ≡ true) × (length us ≤ 254)
text_facts w us g = ((text_pairs w us (text_format.inside g)).1, few w us g)
  where
    few : (w us : List ℕ) → Text tidy w us → length us ≤ 254
    few w [] g = omega arith
    few w (u ∷ us) (lead {a = a} (num h) e k) = omega (arith, e)

module _ (us : List ℕ) where
  -- the cases of what is said
  data TextCase : Said → Type 0 where
    unpaired : paired us ≡ false → TextCase (no (bare TEXT))
    too_long : paired us ≡ true → 254 < length us → TextCase (no (bare COUNT))
    fits : paired us ≡ true → length us ≤ 254 → TextCase (says (spelled us))

  text_case : TextCase (text_said us)
  text_case = go (paired us) refl (leb (length us) 254) refl
    where
      go : (a : Bool) → paired us ≡ a → (b : Bool) → leb (length us) 254 ≡ b → TextCase (text_said us)
      go false e b f = rw (said_unpaired us e) (unpaired e)
      go true e false f = let h = leb-false (length us) 254 f in rw (said_long us e h) (too_long e h)
      go true e true f = let h = leb-true (length us) 254 f in rw (said_text us e h) (fits e h)

  -- the bytes w exactly where they are the tidy word of these units
  pub text_written : Units16 us → (w : List ℕ) → text_said us ≡ says w ↔ Text tidy w us
  unfolding spelled
  text_written small w = (λ e. forth (text_said us) text_case e, λ g. back g)
    where
      forth : (x : Said) → TextCase x → x ≡ says w → Text tidy w us
      forth x (unpaired e) f = zero_one (cc)
      forth x (too_long e h) f = zero_one (cc)
      forth x (fits e h) f = let is : text.write us ≡ w = cc in subst (λ v. Text tidy v us) is (text_format.has (text_there us small e h).1)

      back : Text tidy w us → text_said us ≡ says w
      back g = let k = text_facts w us g in said_text us k.0 k.1 ∙ ap says (sym (text_format.one g))

  no_same : (m n : ℕ) → no (bare m) ≡ no (bare n) → m ≡ n
  unfolding bare
  no_same m n e = let f : bare m ≡ bare n = cc in ap (λ (t : Told). t.no) f

  -- 2 exactly where a surrogate is unpaired; then 10 exactly over 254 units
  pub text_2 : text_said us ≡ no (bare TEXT) ↔ (paired us ≡ false)
  text_2 = (λ e. go (text_said us) text_case e, said_unpaired us)
    where
      go : (x : Said) → TextCase x → x ≡ no (bare TEXT) → paired us ≡ false
      go x (unpaired e) f = e
      go x (too_long e h) f = absurd (omega (arith, no_same COUNT TEXT f))
      go x (fits e h) f = zero_one (cc)

  pub text_10 : text_said us ≡ no (bare COUNT) ↔ ((paired us ≡ true) × (254 < length us))
  text_10 = (λ e. go (text_said us) text_case e, λ h. said_long us h.0 h.1)
    where
      go : (x : Said) → TextCase x → x ≡ no (bare COUNT) → (paired us ≡ true) × (254 < length us)
      go x (unpaired e) f = absurd (omega (arith, no_same TEXT COUNT f))
      go x (too_long e h) f = (e, h)
      go x (fits e h) f = zero_one (cc)

-- ── arrays ──

pub array_shape : {t : ℕ} {k : Kind} → ArrayType t k → (shape t ≡ many k) × (0 < width k)
array_shape aint8 = (refl, lit≤ tt)
array_shape auint8 = (refl, lit≤ tt)
array_shape aint16 = (refl, lit≤ tt)
array_shape auint16 = (refl, lit≤ tt)
array_shape aint32 = (refl, lit≤ tt)
array_shape auint32 = (refl, lit≤ tt)
array_shape aint64 = (refl, lit≤ tt)
array_shape auint64 = (refl, lit≤ tt)
array_shape aint128 = (refl, lit≤ tt)
array_shape auint128 = (refl, lit≤ tt)

module _ {t : ℕ} {k : Kind} (a : ArrayType t k) (bs : List ℕ) (h : Bytes bs) where
  abbrev w : ℕ
  w = width k

  not_empty : 0 < w
  not_empty = (array_shape a).1

  said_so : array_said t bs ≡ items_said w bs
  unfolding shape_said
  said_so = ap (λ x. shape_said x bs) (array_shape a).0

  data ItemsCase : Said → Type 0 where
    not_whole : (length bs % w ≡ 0 → ⊥) → ItemsCase (no (bare COUNT))
    too_many : length bs % w ≡ 0 → 4294967295 < length bs / w → ItemsCase (no (bare COUNT))
    items : length bs % w ≡ 0 → length bs / w ≤ 4294967295 → ItemsCase (says (bytes 4 (length bs / w) ++ bs))

  items_case : ItemsCase (items_said w bs)
  items_case = go (eqb (length bs % w) 0) refl (leb (length bs / w) 4294967295) refl
    where
      go : (x : Bool) → eqb (length bs % w) 0 ≡ x → (y : Bool) → leb (length bs / w) 4294967295 ≡ y → ItemsCase (items_said w bs)
      go false e y f = let k = eqb-false (length bs % w) 0 e in rw (said_part w bs not_empty k) (not_whole k)
      go true e false f = let k = eqb-true (length bs % w) 0 e in let m = leb-false (length bs / w) 4294967295 f in rw (said_many w bs not_empty k m) (too_many k m)
      go true e true f = let k = eqb-true (length bs % w) 0 e in let m = leb-true (length bs / w) 4294967295 f in rw (said_items w bs not_empty k h m) (items k m)

  count_is : (n : ℕ) → length bs ≡ n * w → (length bs % w ≡ 0) × (length bs / w ≡ n)
  count_is n e = (ap (λ m. m % w) e ∙ mul-mod_left n w, ap (λ m. m / w) e ∙ mul-div n)
    where
      mul-div : (n : ℕ) → n * w / w ≡ n
      mul-div n = mul-div_cancel n not_empty

  -- the bytes v exactly where the items are whole and not too many, v being their count and they
  pub array_written : (v : List ℕ) → array_said t bs ≡ says v ↔ Items (width k) bs v
  array_written v = (λ e. forth (items_said w bs) items_case (sym said_so ∙ e), back)
    where
      forth : (x : Said) → ItemsCase x → x ≡ says v → Items (width k) bs v
      forth x (not_whole e) f = zero_one (cc)
      forth x (too_many e m) f = zero_one (cc)
      forth x (items e m) f = record { count = length bs / w; whole = sym (div-add-mod' (length bs) w) ∙ omega arith; few = m; is = cc }

      back : Items (width k) bs v → array_said t bs ≡ says v
      back i =
          let c = count_is i.count i.whole in
          said_so ∙ said_items w bs not_empty c.0 h (omega (arith, c.1, i.few)) ∙ ap says (ap (λ n. bytes 4 n ++ bs) c.1 ∙ sym i.is)

  -- else 10
  pub array_10 : ((v : List ℕ) → Items (width k) bs v → ⊥) → array_said t bs ≡ no (bare COUNT)
  array_10 nothing = said_so ∙ go (items_said w bs) items_case
    where
      go : (x : Said) → ItemsCase x → x ≡ no (bare COUNT)
      go x (not_whole e) = refl
      go x (too_many e m) = refl
      go x (items e m) = absurd (nothing (bytes 4 (length bs / w) ++ bs) (record { count = length bs / w; whole = sym (div-add-mod' (length bs) w) ∙ omega arith; few = m; is = refl }))

  -- which is the tidy word of the items' numbers
  pub array_word : (v : List ℕ) (i : Items (width k) bs v) → Value t tidy v (nums (map (meaning k) (cells (width k) i.count bs)))
  array_word v i =
      let n = i.count in
      let g = (array_format w).has (lead {a = n} (num {n = n} (omega (arith, i.few))) tt (cells_all w n bs h i.whole)) in
      let word : (array w).write (cells w n bs) ≡ v = items_stand w n bs h i.whole ∙ sym i.is in
      let x = nums (map (meaning k) (cells w n bs)) in
      subst (λ y. Shaped y tidy v x) (sym (array_shape a).0) (as' {a = cells w n bs} (subst (λ u. Counted 4 (Number w) tidy u (cells w n bs)) word g))

-- ── 12: a code that is no array's ──

array_code : (m : ℕ) → 1 ≤ m → m ≤ 10 → (k : Kind) × ArrayType (0x4000 + m) k
array_code zero l h = absurd (omega arith)
array_code (suc zero) l h = (sint 1, aint8)
array_code (suc (suc zero)) l h = (uint 1, auint8)
array_code (suc (suc (suc zero))) l h = (sint 2, aint16)
array_code (suc (suc (suc (suc zero)))) l h = (uint 2, auint16)
array_code (suc (suc (suc (suc (suc zero))))) l h = (sint 4, aint32)
array_code (suc (suc (suc (suc (suc (suc zero)))))) l h = (uint 4, auint32)
array_code (suc (suc (suc (suc (suc (suc (suc zero))))))) l h = (sint 8, aint64)
array_code (suc (suc (suc (suc (suc (suc (suc (suc zero)))))))) l h = (uint 8, auint64)
array_code (suc (suc (suc (suc (suc (suc (suc (suc (suc zero))))))))) l h = (wide, aint128)
array_code (suc (suc (suc (suc (suc (suc (suc (suc (suc (suc zero)))))))))) l h = (wide, auint128)
array_code (suc (suc (suc (suc (suc (suc (suc (suc (suc (suc (suc m))))))))))) l h = absurd (omega arith)

-- a code that the table of arrays has not is of another shape
pub no_array : (t : ℕ) → ((k : Kind) → ArrayType t k → ⊥) → (k : Kind) → shape t ≡ many k → ⊥
no_array t other k e = go (get_or kinds t none) (kind_at t) (get_or kinds (t - 0x4000) none) (kind_at (t - 0x4000)) (eqb t STR) e
  where
    go : (a : Option Kind) → KindAt t a → (b : Option Kind) → KindAt (t - 0x4000) b → (c : Bool) → shape_or one a (shape_or many b (pick c string undef)) ≡ many k → ⊥
    go a (a_kind j l h) b i c e = zero_one (cc)
    go a (no_kind f) b (a_kind j l h) c e =
        let o = array_code (t - 0x4000) l h in
        let is : 0x4000 + (t - 0x4000) ≡ t = omega arith in
        other o.0 (subst (λ n. ArrayType n o.0) is o.1)
    go a (no_kind f) b (no_kind g) true e = zero_one (cc)
    go a (no_kind f) b (no_kind g) false e = zero_one (cc)

-- 12 exactly for the codes that the table of arrays has not
pub array_12 : (t : ℕ) (bs : List ℕ) → Bytes bs → array_said t bs ≡ no (bare PLACE) ↔ ((k : Kind) → ArrayType t k → ⊥)
unfolding shape_said
array_12 t bs h = (λ e k a. never a e, λ other. go (shape t) refl other)
  where
    never : {k : Kind} → ArrayType t k → array_said t bs ≡ no (bare PLACE) → ⊥
    never {k} a e = of (items_said (width k) bs) (items_case a bs h) (sym (said_so a bs h) ∙ e)
      where
        of : (x : Said) → ItemsCase a bs h x → x ≡ no (bare PLACE) → ⊥
        of x (not_whole f) e = omega (arith, no_same [] COUNT PLACE e)
        of x (too_many f m) e = omega (arith, no_same [] COUNT PLACE e)
        of x (items f m) e = zero_one (cc)

    go : (x : Shape) → shape t ≡ x → ((k : Kind) → ArrayType t k → ⊥) → shape_said x bs ≡ no (bare PLACE)
    go (one k) e other = refl
    go (many k) e other = absurd (no_array t other k e)
    go string e other = refl
    go undef e other = refl
