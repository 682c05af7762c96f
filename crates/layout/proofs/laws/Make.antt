-- Each way to make a codec is faithful to the way to make a grammar that it is of.
-- Assumes nothing.
use mathlib.Core.Path.{◌≡◌, refl, ap, sym, ◌∙◌, subst}
use mathlib.Core.Bool.{Bool, true, false}
use mathlib.Core.List.{List, [], ◌∷◌, ◌++◌}
use Prim.Native.Nat.{ℕ, zero, suc, ◌+◌, ◌*◌, ◌-◌, ◌^◌, ◌≤◌, ◌<◌}
use native.Mathlib.Nat.{add-zero, zero-mul, suc-mul}
use native.Mathlib.Omega.{arith}
use lib.Dec.{T, leb, lit≤}
use borrow.Author.Tests.{le-leb, lt-leb, leb-true, leb-false}
use native.Mathlib.Nat.{one-le-pow}
use lib.ListN.{length, take, drop, length-append, length-drop, take-append-drop}
use lib.Seq.{take_at, drop_at, length-take-le}
use Rattle.layout.specs.Answer.{Told, Answer, got, refused, pick, after, means, located, end_at, span_at, field_at}
use Rattle.layout.specs.Bytes.{Bytes, bytes, number, cells}
use Rattle.layout.specs.Grammar.{Spelling, loose, tidy, Grammar, Empty, empty, Number, num, ◌then◌, both, Lead, lead, Such, such, As, as', Repeat, Spare, Counted}
use Rattle.layout.specs.Codec.{Codec, nothing, numbered, ◌and◌, leading, only, through, field, repeated, spared, celled, counted}
use Rattle.layout.specs.Format.{Stands, Sound, word, none, Format}
use Rattle.layout.proofs.laws.Numbers.{Bytes-drop, Bytes-take, bytes_number, length_bytes, number_bytes, number_lt}
use Rattle.layout.proofs.laws.Words.{fits, join, part_there, split, stands_none}

-- one reader after another keeps what is sound
pub after_sound : {A B : Type 0} {G : Grammar A} {H : Grammar B} {s : List ℕ} {at from : ℕ} {x : Answer A} (k : A → ℕ → Answer B) → Sound G s at x
    → ((a : A) (n : ℕ) (w : List ℕ) → Stands s at n w → G loose w a → Sound H s from (k a n)) → Sound H s from (after x k)
unfolding after
after_sound k (word {w} {r} {n} st g) f = f r n w st g
after_sound k none f = none

pub means_sound : {A B : Type 0} {G : Grammar A} {H : Grammar B} {s : List ℕ} {at from : ℕ} {x : Answer A} (f : A → B) → Sound G s at x
    → ((a : A) (n : ℕ) (w : List ℕ) → Stands s at n w → G loose w a → Sound H s from (got (f a) n)) → Sound H s from (means f x)
unfolding means
means_sound f (word {w} {r} {n} st g) k = k r n w st g
means_sound f none k = none

pub sound_sound : {A : Type 0} {G H : Grammar A} {s : List ℕ} {at from : ℕ} {x : Answer A} → Sound G s at x
    → ((a : A) (n : ℕ) (w : List ℕ) → Stands s at n w → G loose w a → Sound H s from (got a n)) → Sound H s from x
sound_sound (word {w} {r} {n} st g) k = k r n w st g
sound_sound none k = none

-- ── nothing ──

module _ {R : Type 0} (r : R) where
  empty_complete : {s w : List ℕ} {at n : ℕ} {x : R} → Stands s at n w → Empty r loose w x → got r at ≡ got x n
  empty_complete {at} st empty = ap (got r) (sym (st.till ∙ add-zero at))

  empty_inside : {w : List ℕ} {x : R} → Empty r tidy w x → Empty r loose w x
  empty_inside empty = empty

  empty_one : {w : List ℕ} {x : R} → Empty r tidy w x → w ≡ []
  empty_one empty = refl

  empty_has : {w : List ℕ} {x : R} → Empty r loose w x → Empty r tidy [] x
  empty_has empty = empty

  pub nothing_format : Format (Empty r) (nothing r)
  nothing_format = record { sound = λ s h at. word stands_none empty; complete = empty_complete; inside = empty_inside; one = empty_one; has = empty_has }

-- ── so many bytes, each of which are a word ──

pub span_there : (field n : ℕ) (s : List ℕ) (at : ℕ) → n ≤ length s - at → span_at field n s at ≡ got tt (at + n)
unfolding span_at
span_there field n s at h = simp (le-leb _ _ h)

pub span_short : (field n : ℕ) (s : List ℕ) (at : ℕ) → length s - at < n → span_at field n s at ≡ refused (end_at field)
unfolding span_at
span_short field n s at h = simp (lt-leb _ _ h)

-- either case of a span
pub data Spanned (field n : ℕ) (s : List ℕ) (at : ℕ) : Answer (Unit {0}) → Type 0 where
  there : n ≤ length s - at → Spanned field n s at (got tt (at + n))
  short : length s - at < n → Spanned field n s at (refused (end_at field))

pub spanned : (field n : ℕ) (s : List ℕ) (at : ℕ) → Spanned field n s at (span_at field n s at)
unfolding span_at
spanned field n s at = go (leb n (length s - at)) refl
  where
    go : (b : Bool) → leb n (length s - at) ≡ b → Spanned field n s at (pick b (got tt (at + n)) (refused (end_at field)))
    go true e = there (leb-true _ _ e)
    go false e = short (leb-false _ _ e)

module _ {R : Type 0} (G : Grammar R) (k : ℕ) (mean : List ℕ → R) where
  field_sound : ((w : List ℕ) → Bytes w → length w ≡ k → G loose w (mean w)) → (s : List ℕ) → Bytes s → (at : ℕ) → Sound G s at (field_at k mean s at)
  unfolding field_at after
  field_sound all s h at = go (span_at at k s at) (spanned at k s at)
    where
      go : (x : Answer (Unit {0})) → Spanned at k s at x → Sound G s at (after x λ _ next. got (mean (take k (drop at s))) next)
      go (got t n) (there f) =
          let st = part_there s at k f in
          word st (all (take k (drop at s)) (Bytes-take k (drop at s) (Bytes-drop at s h)) (omega (arith, st.till)))
      go (refused t) (short f) = none

  pub field_complete : ((w : List ℕ) (r : R) → G loose w r → (length w ≡ k) × (mean w ≡ r))
      → {s w : List ℕ} {at n : ℕ} {r : R} → Stands s at n w → G loose w r → field_at k mean s at ≡ got r n
  unfolding field_at after
  field_complete size {s} {w} {at} {n} {r} st g =
      let e = size w r g in
      let there : k ≤ length s - at = omega (arith, fits st, e.0) in
      let same : take k (drop at s) ≡ w = rw (← e.0) st.is in
      rw (span_there at k s at there, same, e.1, st.till, e.0)

module _ (k : ℕ) where
  num_all : (w : List ℕ) → Bytes w → length w ≡ k → Number k loose w (number w)
  num_all w h e =
      let lt : number w < 256 ^ k = rw e at (number_lt w h) in
      let is : bytes k (number w) ≡ w = rw e at (bytes_number w h) in
      subst (λ v. Number k loose v (number w)) is (num lt)

  pub num_size : (w : List ℕ) (n : ℕ) → Number k loose w n → (length w ≡ k) × (number w ≡ n)
  num_size w n (num h) = (length_bytes k n, number_bytes k n h)

  num_inside : {w : List ℕ} {n : ℕ} → Number k tidy w n → Number k loose w n
  num_inside (num h) = num h

  num_one : {w : List ℕ} {n : ℕ} → Number k tidy w n → w ≡ bytes k n
  num_one (num h) = refl

  num_has : {w : List ℕ} {n : ℕ} → Number k loose w n → Number k tidy (bytes k n) n
  num_has (num h) = num h

  pub number_format : Format (Number k) (numbered k)
  number_format = record {
    sound = field_sound (Number k) k number num_all;
    complete = field_complete (Number k) k number num_size;
    inside = num_inside;
    one = num_one;
    has = num_has;
  }

-- ── one after the other ──

module _ {A B : Type 0} {G : Grammar A} {H : A → Grammar B} {F : Codec A} {K : A → Codec B} (f : Format G F) (k : (a : A) → Format (H a) (K a)) where
  then_sound : (s : List ℕ) → Bytes s → (at : ℕ) → Sound (G then H) s at ((F and K).read s at)
  then_sound s h at = after_sound _ (f.sound s h at) λ a n u st g. means_sound _ ((k a).sound s h n) λ b m v st' g'. word (join st st') (both g g')

  then_complete : {s w : List ℕ} {at n : ℕ} {x : A × B} → Stands s at n w → (G then H) loose w x → (F and K).read s at ≡ got x n
  unfolding after means
  then_complete st (both {u} {v} {a} {b} g g') = let p = split u v st in rw (f.complete p.0 g, (k a).complete p.1 g')

  then_inside : {w : List ℕ} {x : A × B} → (G then H) tidy w x → (G then H) loose w x
  then_inside (both {a} g g') = both (f.inside g) ((k a).inside g')

  then_one : {w : List ℕ} {x : A × B} → (G then H) tidy w x → w ≡ (F and K).write x
  then_one (both {u} {v} {a} g g') = cc (f.one g, (k a).one g')

  then_has : {w : List ℕ} {x : A × B} → (G then H) loose w x → (G then H) tidy ((F and K).write x) x
  then_has (both {a} g g') = both (f.has g) ((k a).has g')

  pub then_format : Format (G then H) (F and K)
  then_format = record { sound = then_sound; complete = then_complete; inside = then_inside; one = then_one; has = then_has }

-- ── the first picks the second, and is not kept ──

module _ {A R : Type 0} {G : Grammar A} {H : A → Grammar R} {F : Codec A} {K : A → Codec R} (f : Format G F) (c : R → A) (k : (a : A) → Format (H a) (K a)) where
  lead_sound : (s : List ℕ) → Bytes s → (at : ℕ) → Sound (Lead G c H) s at ((leading F c K).read s at)
  lead_sound s h at = after_sound _ (f.sound s h at) λ a n u st g. sound_sound ((k a).sound s h n) λ r m v st' g'. word (join st st') (lead g tt g')

  lead_complete : {s w : List ℕ} {at n : ℕ} {r : R} → Stands s at n w → Lead G c H loose w r → (leading F c K).read s at ≡ got r n
  unfolding after
  lead_complete st (lead {u} {v} {a} g e g') = let p = split u v st in rw (f.complete p.0 g) ((k a).complete p.1 g')

  lead_inside : {w : List ℕ} {r : R} → Lead G c H tidy w r → Lead G c H loose w r
  lead_inside (lead {a} g e g') = lead (f.inside g) tt ((k a).inside g')

  lead_one : {w : List ℕ} {r : R} → Lead G c H tidy w r → w ≡ (leading F c K).write r
  lead_one (lead {a} g e g') = rw (← e) (cc (f.one g, (k a).one g'))

  -- a reading has a tidy word if the first reading that it should have is one, and picks a layout that has the reading too
  module _ (home : (a : A) (u v : List ℕ) (r : R) → G loose u a → H a loose v r → ((w : List ℕ) × G loose w (c r)) × ((w : List ℕ) × H (c r) loose w r)) where
    lead_has : {w : List ℕ} {r : R} → Lead G c H loose w r → Lead G c H tidy ((leading F c K).write r) r
    lead_has (lead {u} {v} {a} {r} g e g') = let m = home a u v r g g' in lead (f.has m.0.1) refl ((k (c r)).has m.1.1)

    pub lead_format : Format (Lead G c H) (leading F c K)
    lead_format = record { sound = lead_sound; complete = lead_complete; inside = lead_inside; one = lead_one; has = lead_has }

-- ── a test; refused, it is told by `why` of the place ──

-- it holds, so it is true
pub tested : (b : Bool) → T b → b ≡ true
tested true t = refl
tested false t = absurd t

module _ {R : Type 0} {G : Grammar R} {F : Codec R} (why : ℕ → Told) (test : R → Bool) (f : Format G F) where
  such_sound : (s : List ℕ) → Bytes s → (at : ℕ) → Sound (Such test G) s at ((only why test F).read s at)
  such_sound s h at = after_sound _ (f.sound s h at) λ r n w st g. go r n w st g (test r) (λ t. t)
    where
      go : (r : R) (n : ℕ) (w : List ℕ) → Stands s at n w → G loose w r → (b : Bool) → (T b → T (test r)) → Sound (Such test G) s at (pick b (got r n) (refused (why at)))
      go r n w st g true f = word st (such (f tt) g)
      go r n w st g false f = none

  such_complete : {s w : List ℕ} {at n : ℕ} {r : R} → Stands s at n w → Such test G loose w r → (only why test F).read s at ≡ got r n
  unfolding after
  such_complete st (such {r} p g) = rw (f.complete st g, tested (test r) p)

  such_inside : {w : List ℕ} {r : R} → Such test G tidy w r → Such test G loose w r
  such_inside (such p g) = such p (f.inside g)

  such_one : {w : List ℕ} {r : R} → Such test G tidy w r → w ≡ F.write r
  such_one (such p g) = f.one g

  such_has : {w : List ℕ} {r : R} → Such test G loose w r → Such test G tidy (F.write r) r
  such_has (such p g) = such p (f.has g)

  pub such_format : Format (Such test G) (only why test F)
  such_format = record { sound = such_sound; complete = such_complete; inside = such_inside; one = such_one; has = such_has }

-- ── read through f; `out` writes what f made ──

module _ {A B : Type 0} {G : Grammar A} {F : Codec A} (f : A → B) (k : Format G F) (out : B → List ℕ) (back : (w : List ℕ) (a : A) → G loose w a → out (f a) ≡ F.write a) where
  as_sound : (s : List ℕ) → Bytes s → (at : ℕ) → Sound (As f G) s at ((through f F out).read s at)
  as_sound s h at = means_sound _ (k.sound s h at) λ a n w st g. word st (as' g)

  as_complete : {s w : List ℕ} {at n : ℕ} {b : B} → Stands s at n w → As f G loose w b → (through f F out).read s at ≡ got b n
  unfolding means
  as_complete st (as' g) = rw (k.complete st g)

  as_inside : {w : List ℕ} {b : B} → As f G tidy w b → As f G loose w b
  as_inside (as' g) = as' (k.inside g)

  as_one : {w : List ℕ} {b : B} → As f G tidy w b → w ≡ out b
  as_one (as' {w} {a} g) = k.one g ∙ sym (back w a (k.inside g))

  as_has : {w : List ℕ} {b : B} → As f G loose w b → As f G tidy (out b) b
  as_has (as' {w} {a} g) = rw (back w a g) (as' (k.has g))

  pub as_format : Format (As f G) (through f F out)
  as_format = record { sound = as_sound; complete = as_complete; inside = as_inside; one = as_one; has = as_has }

-- ── the same layout as one field ──

module _ {R : Type 0} {G : Grammar R} {F : Codec R} (f : Format G F) where
  field_told : {s : List ℕ} {at : ℕ} {x : Answer R} → Sound G s at x → Sound G s at (located at x)
  unfolding located
  field_told (word st g) = word st g
  field_told none = none

  field_same : {s w : List ℕ} {at n : ℕ} {r : R} → Stands s at n w → G loose w r → located at (F.read s at) ≡ got r n
  unfolding located
  field_same st g = rw (f.complete st g)

  pub field_format : Format G (field F)
  field_format = record { sound = λ s h at. field_told (f.sound s h at); complete = field_same; inside = f.inside; one = f.one; has = f.has }

-- ── made of these ──

pub repeat_format : {R : Type 0} {G : Grammar R} {F : Codec R} (n : ℕ) → Format G F → Format (Repeat n G) (repeated n F)
repeat_format zero f = nothing_format []
repeat_format {F} (suc n) f = as_format _ (then_format f λ _. repeat_format n f) _ λ w a g. refl

pub repeat_length : {R : Type 0} (G : Grammar R) (p : Spelling) (n : ℕ) (w : List ℕ) (xs : List R) → Repeat n G p w xs → length xs ≡ n
repeat_length G p zero w xs empty = refl
repeat_length G p (suc n) w xs (as' (both {v} {b} g h)) = ap suc (repeat_length G p n v b h)

pub spare_format : (k : ℕ) → Format (Spare k) (spared k)
spare_format k = lead_format (number_format k) (λ _. 0) (λ _. nothing_format tt) λ a u v r g h. ((bytes k 0, num (one-le-pow k 256 (lit≤ tt))), (v, h))

-- a row of numbers of one width, by one test for the end
module _ (k : ℕ) where
  pub cells_all : (n : ℕ) (w : List ℕ) → Bytes w → length w ≡ n * k → Repeat n (Number k) loose w (cells k n w)
  unfolding cells
  cells_all zero [] h e = empty
  cells_all zero (b ∷ w) h e = let z : ⊥ = omega (arith, zero-mul k) in absurd z
  cells_all (suc n) w h e =
      let l : length w ≡ k + n * k = e ∙ omega (arith, suc-mul n k) in
      let a : Number k loose (take k w) (number (take k w)) = num_all k (take k w) (Bytes-take k w h) (length-take-le k w (omega arith)) in
      let b = cells_all n (drop k w) (Bytes-drop k w h) (omega (arith, length-drop k w)) in
      subst (λ v. Repeat (suc n) (Number k) loose v (cells k (suc n) w)) (take-append-drop k w) (as' (both a b))

  pub cells_size : (n : ℕ) (w xs : List ℕ) → Repeat n (Number k) loose w xs → (length w ≡ n * k) × (cells k n w ≡ xs)
  unfolding cells
  cells_size zero w xs empty = (sym (zero-mul k), refl)
  cells_size (suc n) w xs (as' (both {u} {v} {a} {b} g h)) =
      let p = num_size k u a g in
      let q = cells_size n v b h in
      let t : take k (u ++ v) ≡ u = take_at u v k p.0 in
      let d : drop k (u ++ v) ≡ v = drop_at u v k p.0 in
      (omega (arith, length-append u v, suc-mul n k, p.0, q.0), rw (t, d, p.1, q.1))

  pub cells_format : (n : ℕ) → Format (Repeat n (Number k)) (celled k n)
  cells_format n =
      let r = repeat_format n (number_format k) in
      record {
        sound = field_sound (Repeat n (Number k)) (n * k) (cells k n) (cells_all n);
        complete = field_complete (Repeat n (Number k)) (n * k) (cells k n) (cells_size n);
        inside = r.inside;
        one = r.one;
        has = r.has;
      }

count_home : {R : Type 0} (G : Grammar R) (k n : ℕ) (u v : List ℕ) (xs : List R) → Number k loose u n → Repeat n G loose v xs
    → ((w : List ℕ) × Number k loose w (length xs)) × ((w : List ℕ) × Repeat (length xs) G loose w xs)
count_home G k n u v xs g h = rw (repeat_length G loose n v xs h) ((u, g), (v, h))

pub count_format : {R : Type 0} {G : Grammar R} {row : ℕ → Codec (List R)} (k : ℕ) → ((n : ℕ) → Format (Repeat n G) (row n)) → Format (Counted k G) (counted k row)
count_format {G} k rows = lead_format (number_format k) length rows (count_home G k)
