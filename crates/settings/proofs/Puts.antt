-- Laws of `put` and `without` on readings: what it holds, in which order, and how many.
-- Assumes nothing.
use mathlib.Core.Path.{◌≡◌, refl, ap, sym, ◌∙◌, subst}
use mathlib.Core.Bool.{Bool, true, false}
use mathlib.Core.List.{List, [], ◌∷◌, ◌++◌}
use mathlib.Core.Option.{some, none}
use Prim.Native.Nat.{suc, ◌≤◌}
use native.Mathlib.Omega.{arith}
use borrow.Author.Tests.{leb-false}
use lib.Dec.{leb}
use lib.ListN.{length}
use Rattle.layout.specs.Answer.{pick}
use Rattle.layout.proofs.laws.Numbers.{zero_one}
use Rattle.settings.specs.Layout.{Key, Setting, same_key, holds, Distinct, limit}
use Rattle.settings.specs.Row.{first_by}
use Rattle.settings.specs.Store.{put, without, is_full}
use Rattle.settings.proofs.Rows.{not_both, same_true, true_same, false_same}

abbrev pub key_of : Setting → Key
key_of x = x.key

-- ── what is held after it ──

-- another key is held as before
pub holds_other : (k : Key) (x : Setting) (xs : List Setting) → same_key k x.key ≡ false → holds k (put x xs) ≡ holds k xs
unfolding put holds
holds_other k x [] e = rw e
holds_other k x (y ∷ ys) e = go (same_key x.key y.key) refl (holds_other k x ys e)
  where
    go : (b : Bool) → same_key x.key y.key ≡ b → holds k (put x ys) ≡ holds k ys → holds k (pick b (x ∷ ys) (y ∷ put x ys)) ≡ pick (same_key k y.key) true (holds k ys)
    go true f r = let same : x.key ≡ y.key = same_true x.key y.key f in ap (λ j. pick (same_key k j) true (holds k ys)) same
    go false f r = ap (λ b. pick (same_key k y.key) true b) r

-- its own is
pub holds_own : (x : Setting) (xs : List Setting) → holds x.key (put x xs) ≡ true
unfolding put holds
holds_own x [] = rw (true_same x.key x.key refl)
holds_own x (y ∷ ys) = go (same_key x.key y.key) refl (holds_own x ys)
  where
    go : (b : Bool) → same_key x.key y.key ≡ b → holds x.key (put x ys) ≡ true → holds x.key (pick b (x ∷ ys) (y ∷ put x ys)) ≡ true
    go true f r = rw (true_same x.key x.key refl)
    go false f r = rw (f, r)

pub put_distinct : (x : Setting) (xs : List Setting) → Distinct xs → Distinct (put x xs)
unfolding put holds
put_distinct x [] d = (refl, tt)
put_distinct x (y ∷ ys) d = go (same_key x.key y.key) refl (put_distinct x ys d.1)
  where
    go : (b : Bool) → same_key x.key y.key ≡ b → Distinct (put x ys) → Distinct (pick b (x ∷ ys) (y ∷ put x ys))
    go true f r = let same : x.key ≡ y.key = same_true x.key y.key f in (ap (λ k. holds k ys) same ∙ d.0, d.1)
    go false f r = (holds_other y.key x ys (false_same y.key x.key (λ i. not_both (true_same x.key y.key (sym i)) f)) ∙ d.0, r)

-- ── where it stands: what is before it and behind it is as it was ──

pub data Put (x : Setting) (xs : List Setting) : List Setting → Type 0 where
  -- in place of the one that had its key
  in_place : (before after : List Setting) (y : Setting) → xs ≡ before ++ (y ∷ after) → y.key ≡ x.key → holds x.key before ≡ false → Put x xs (before ++ (x ∷ after))
  -- or last, where none had it
  last : holds x.key xs ≡ false → Put x xs (xs ++ (x ∷ []))

pub where_put : (x : Setting) (xs : List Setting) → Put x xs (put x xs)
unfolding put holds
where_put x [] = last refl
where_put x (y ∷ ys) = go (same_key x.key y.key) refl (where_put x ys)
  where
    later : same_key x.key y.key ≡ false → (zs : List Setting) → Put x ys zs → Put x (y ∷ ys) (y ∷ zs)
    later f zs (in_place before after z e k n) = in_place (y ∷ before) after z (ap (λ l. y ∷ l) e) k (rw f n)
    later f zs (last n) = last (rw f n)

    go : (b : Bool) → same_key x.key y.key ≡ b → Put x ys (put x ys) → Put x (y ∷ ys) (pick b (x ∷ ys) (y ∷ put x ys))
    go true f r = in_place [] ys y refl (sym (same_true x.key y.key f)) refl
    go false f r = later f (put x ys) r

-- ── how many ──

put_size : (x : Setting) (xs : List Setting) → length (put x xs) ≡ pick (holds x.key xs) (length xs) (suc (length xs))
unfolding put holds
put_size x [] = refl
put_size x (y ∷ ys) = go (same_key x.key y.key) (holds x.key ys) (put_size x ys)
  where
    go : (b c : Bool) → length (put x ys) ≡ pick c (length ys) (suc (length ys)) → length (pick b (x ∷ ys) (y ∷ put x ys)) ≡ pick (pick b true c) (suc (length ys)) (suc (suc (length ys)))
    go true c r = refl
    go false true r = ap suc r
    go false false r = ap suc r

pub put_few : (x : Setting) (xs : List Setting) → length xs ≤ limit → is_full x.key xs ≡ false → length (put x xs) ≤ limit
unfolding is_full
put_few x xs l f = go (holds x.key xs) (put_size x xs) f
  where
    go : (b : Bool) → length (put x xs) ≡ pick b (length xs) (suc (length xs)) → pick b false (leb limit (length xs)) ≡ false → length (put x xs) ≤ limit
    go true e f = omega (arith, e)
    go false e f = omega (arith, e, leb-false limit (length xs) f)

-- ── once more ──

-- of two with one key the second decides
pub put_put : (x y : Setting) (xs : List Setting) → x.key ≡ y.key → put y (put x xs) ≡ put y xs
unfolding put
put_put x y [] e = rw (true_same y.key x.key (sym e))
put_put x y (z ∷ zs) e = go (same_key x.key z.key) refl (put_put x y zs e)
  where
    go : (b : Bool) → same_key x.key z.key ≡ b → put y (put x zs) ≡ put y zs → put y (pick b (x ∷ zs) (z ∷ put x zs)) ≡ pick (same_key y.key z.key) (y ∷ zs) (z ∷ put y zs)
    go true f r =
        let same : y.key ≡ z.key = sym e ∙ same_true x.key z.key f in
        rw (true_same y.key x.key (sym e), true_same y.key z.key same)
    go false f r = let other : same_key y.key z.key ≡ false = subst (λ k. same_key k z.key ≡ false) e f in rw (other, r)

-- and as many are held as after the first
pub put_put_size : (x y : Setting) (xs : List Setting) → x.key ≡ y.key → length (put y (put x xs)) ≡ length (put x xs)
put_put_size x y xs e = ap length (put_put x y xs e) ∙ put_size y xs ∙ ap (λ k. pick (holds k xs) (length xs) (suc (length xs))) (sym e) ∙ sym (put_size x xs)

-- the same once more changes nothing
pub put_again : (x : Setting) (xs : List Setting) → put x (put x xs) ≡ put x xs
put_again x xs = put_put x x xs refl

-- ── what is found after it ──

pub first_own : (x : Setting) (xs : List Setting) → first_by key_of x.key (put x xs) ≡ some x
unfolding put first_by
first_own x [] = rw (true_same x.key x.key refl)
first_own x (y ∷ ys) = go (same_key x.key y.key) refl (first_own x ys)
  where
    go : (b : Bool) → same_key x.key y.key ≡ b → first_by key_of x.key (put x ys) ≡ some x → first_by key_of x.key (pick b (x ∷ ys) (y ∷ put x ys)) ≡ some x
    go true f r = rw (true_same x.key x.key refl)
    go false f r = rw (f, r)

pub first_other : (k : Key) (x : Setting) (xs : List Setting) → same_key k x.key ≡ false → first_by key_of k (put x xs) ≡ first_by key_of k xs
unfolding put first_by
first_other k x [] e = rw e
first_other k x (y ∷ ys) e = go (same_key x.key y.key) refl (first_other k x ys e)
  where
    go : (b : Bool) → same_key x.key y.key ≡ b → first_by key_of k (put x ys) ≡ first_by key_of k ys → first_by key_of k (pick b (x ∷ ys) (y ∷ put x ys)) ≡ pick (same_key k y.key) (some y) (first_by key_of k ys)
    go true f r =
        let same : x.key ≡ y.key = same_true x.key y.key f in
        let other : same_key k y.key ≡ false = subst (λ j. same_key k j ≡ false) same e in
        rw (e, other)
    go false f r = ap (λ o. pick (same_key k y.key) (some y) o) r

-- the first is found exactly where the key is held
pub first_none : (k : Key) (xs : List Setting) → holds k xs ≡ false → first_by key_of k xs ≡ none
unfolding first_by holds
first_none k [] e = refl
first_none k (x ∷ xs) e = go (same_key k x.key) e (λ f. first_none k xs f)
  where
    go : (b : Bool) → pick b true (holds k xs) ≡ false → (holds k xs ≡ false → first_by key_of k xs ≡ none) → pick b (some x) (first_by key_of k xs) ≡ none
    go true e r = zero_one (cc)
    go false e r = r e

pub first_some : (k : Key) (xs : List Setting) → holds k xs ≡ true → (x : Setting) × (first_by key_of k xs ≡ some x) × (x.key ≡ k)
unfolding first_by holds
first_some k [] e = zero_one (cc)
first_some k (x ∷ xs) e = go (same_key k x.key) refl e (λ f. first_some k xs f)
  where
    go : (b : Bool) → same_key k x.key ≡ b → pick b true (holds k xs) ≡ true → (holds k xs ≡ true → (y : Setting) × (first_by key_of k xs ≡ some y) × (y.key ≡ k))
        → (y : Setting) × (pick b (some x) (first_by key_of k xs) ≡ some y) × (y.key ≡ k)
    go true f e r = (x, refl, sym (same_true k x.key f))
    go false f e r = r e

-- ── before the one that has the key, and behind it ──

unfoldable pub ahead_of : Key → List Setting → List Setting
ahead_of k [] = []
ahead_of k (x ∷ xs) = pick (same_key k x.key) [] (x ∷ ahead_of k xs)

unfoldable pub past : Key → List Setting → List Setting
past k [] = []
past k (x ∷ xs) = pick (same_key k x.key) xs (past k xs)

pub put_cut : (x : Setting) (xs : List Setting) → put x xs ≡ ahead_of x.key xs ++ (x ∷ past x.key xs)
unfolding put ahead_of past
put_cut x [] = refl
put_cut x (y ∷ ys) = go (same_key x.key y.key) (put_cut x ys)
  where
    go : (b : Bool) → put x ys ≡ ahead_of x.key ys ++ (x ∷ past x.key ys) → pick b (x ∷ ys) (y ∷ put x ys) ≡ pick b [] (y ∷ ahead_of x.key ys) ++ (x ∷ pick b ys (past x.key ys))
    go true r = refl
    go false r = ap (λ l. y ∷ l) r

pub without_cut : (k : Key) (xs : List Setting) → without k xs ≡ ahead_of k xs ++ past k xs
unfolding without ahead_of past
without_cut k [] = refl
without_cut k (y ∷ ys) = go (same_key k y.key) (without_cut k ys)
  where
    go : (b : Bool) → without k ys ≡ ahead_of k ys ++ past k ys → pick b ys (y ∷ without k ys) ≡ pick b [] (y ∷ ahead_of k ys) ++ pick b ys (past k ys)
    go true r = refl
    go false r = ap (λ l. y ∷ l) r
