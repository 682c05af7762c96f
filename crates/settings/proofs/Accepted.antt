-- What a row that is accepted has: its entries from end to end, one for each key, not over the limit; and what is found in it is what the definition finds.
-- Assumes nothing.
use Rattle.std.specs.Prelude.{Ok, Err}
use mathlib.Core.Path.{◌≡◌, refl, ap, sym, ◌∙◌, subst}
use mathlib.Core.Bool.{Bool, true, false}
use mathlib.Core.List.{List, [], ◌∷◌, ◌++◌}
use mathlib.Core.Option.{Option, some, none}
use Prim.Native.Nat.{ℕ, zero, suc, ◌-◌, ◌≤◌, ◌<◌}
use native.Mathlib.Omega.{arith}
use borrow.Author.Tests.{lt-ltb, le-ltb, ltb-true, ltb-false, leb-false}
use lib.Dec.{ltb, leb}
use lib.ListN.{length, length-append}
use Rattle.layout.specs.Answer.{Told, Answer, got, refused, pick, after, bare}
use Rattle.layout.specs.Bytes.{Bytes}
use Rattle.layout.specs.Refusals.{RECORD}
use Rattle.layout.proofs.laws.Reading.{one_got}
use Rattle.layout.proofs.laws.Numbers.{zero_one}
use Rattle.settings.specs.Refusals.{FULL}
use Rattle.settings.specs.Layout.{Key, Setting, same_key, holds, Distinct, limit}
use Rattle.settings.specs.Entry.{entry_at, key_in, setting_in}
use Rattle.settings.specs.Row.{settings_in, behind, row_from, row_of, count_read, Whole, any_key, own_key, first_by, or_else, find_by, says_held, find_in, found_in}
use Rattle.settings.specs.Search.{Chain, stop, link, place_of, best_of, Best, held_at}
use Rattle.settings.specs.declared.entry.Edition.{Edition}
use Rattle.settings.specs.declared.entry.Edition.TheVariants as edition
use Rattle.settings.specs.declared.entry.Entry.{Entry}
use Rattle.settings.proofs.Spelled.{Spelt, entry_sound}
use Rattle.settings.proofs.Rows.{not_both, same_true, true_same, forward, ahead, chain_snoc}

-- ── one for each key ──

pub settings_snoc : (s : List ℕ) (xs : List Entry) (x : Entry) → settings_in s (xs ++ (x ∷ [])) ≡ settings_in s xs ++ (setting_in s x ∷ [])
settings_snoc s [] x = refl
settings_snoc s (y ∷ xs) x = ap (λ l. setting_in s y ∷ l) (settings_snoc s xs x)

pub same_sym : (a b : Key) → same_key a b ≡ false → same_key b a ≡ false
same_sym a b e = go (same_key b a) refl
  where
    go : (c : Bool) → same_key b a ≡ c → c ≡ false
    go true f = absurd (not_both (true_same a b (sym (same_true b a f))) e)
    go false f = refl

holds_snoc : (k : Key) (xs : List Setting) (x : Setting) → holds k xs ≡ false → same_key k x.key ≡ false → holds k (xs ++ (x ∷ [])) ≡ false
unfolding holds
holds_snoc k [] x e f = rw f
holds_snoc k (y ∷ xs) x e f = go (same_key k y.key) e (λ i. holds_snoc k xs x i f)
  where
    go : (b : Bool) → pick b true (holds k xs) ≡ false → (holds k xs ≡ false → holds k (xs ++ (x ∷ [])) ≡ false) → pick b true (holds k (xs ++ (x ∷ []))) ≡ false
    go true e r = zero_one (cc)
    go false e r = r e

pub distinct_snoc : (xs : List Setting) (x : Setting) → Distinct xs → holds x.key xs ≡ false → Distinct (xs ++ (x ∷ []))
unfolding holds
distinct_snoc [] x d e = (refl, tt)
distinct_snoc (y ∷ xs) x d e = go (same_key x.key y.key) refl e (λ i. distinct_snoc xs x d.1 i)
  where
    go : (b : Bool) → same_key x.key y.key ≡ b → pick b true (holds x.key xs) ≡ false → (holds x.key xs ≡ false → Distinct (xs ++ (x ∷ []))) → Distinct (y ∷ (xs ++ (x ∷ [])))
    go true f e r = zero_one (cc)
    go false f e r = (holds_snoc y.key xs x d.0 (same_sym x.key y.key f), r e)

-- ── what is accepted ──

pub record Accepted (e : Edition) (s : List ℕ) (xs : List Entry) (n : ℕ) : Type 0 where
  pub chain : Chain e s 0 xs n
  pub end : n ≡ length s
  pub distinct : Distinct (settings_in s xs)
  pub few : length xs ≤ limit

module _ (e : Edition) (s : List ℕ) (h : Bytes s) (xs : List Entry) (n : ℕ) where
  from_here : (fuel : ℕ) (ys : List Entry) (at : ℕ) → Chain e s 0 ys at → length s - at ≤ fuel → at ≤ length s → Distinct (settings_in s ys) → length ys ≤ limit → row_from e fuel ys s at ≡ got xs n → Accepted e s xs n
  unfolding row_from after
  from_here zero ys at c k w d f g =
      let i = one_got g in
      let end : at ≡ length s = omega arith in
      subst (λ m. Accepted e s xs m) i.1 (subst (λ l. Accepted e s l at) i.0 (record { chain = c; end = end; distinct = d; few = f }))
  from_here (suc fuel) ys at c k w d f g = test (ltb at (length s)) refl g (λ zs m. from_here fuel zs m)
    where
      Onward : Type 0
      Onward = (zs : List Entry) (m : ℕ) → Chain e s 0 zs m → length s - m ≤ fuel → m ≤ length s → Distinct (settings_in s zs) → length zs ≤ limit → row_from e fuel zs s m ≡ got xs n → Accepted e s xs n

      next : (x : Entry) (m : ℕ) → entry_at e s at ≡ got x m → at < length s → (b : Bool) → holds (key_in s x) (settings_in s ys) ≡ b → (l : Bool) → leb limit (length ys) ≡ l
          → pick b (refused (bare RECORD)) (pick l (refused (bare FULL)) (row_from e fuel (ys ++ (x ∷ [])) s m)) ≡ got xs n → Onward → Accepted e s xs n
      next x m a lt true i l j g on = zero_one (cc)
      next x m a lt false i true j g on = zero_one (cc)
      next x m a lt false i false j g on =
          let sp = entry_sound e s at x m h a in
          let far = forward s h sp in
          let less = leb-false limit (length ys) j in
          on (ys ++ (x ∷ [])) m (chain_snoc c a) (omega (arith, far)) sp.read.within (subst Distinct (sym (settings_snoc s ys x)) (distinct_snoc (settings_in s ys) (setting_in s x) d i)) (omega (arith, length-append ys (x ∷ []))) g

      entry : (y : Answer Entry) → entry_at e s at ≡ y → at < length s
          → after y (λ x m. behind s ys x (row_from e fuel (ys ++ (x ∷ [])) s m)) ≡ got xs n → Onward → Accepted e s xs n
      entry (got x m) a lt g on = next x m a lt (holds (key_in s x) (settings_in s ys)) refl (leb limit (length ys)) refl g on
      entry (refused t) a lt g on = zero_one (cc)

      test : (b : Bool) → ltb at (length s) ≡ b
          → pick b (after (entry_at e s at) λ x m. behind s ys x (row_from e fuel (ys ++ (x ∷ [])) s m)) (got ys at) ≡ got xs n
          → Onward → Accepted e s xs n
      test true t g on = entry (entry_at e s at) refl (ltb-true at (length s) t) g on
      test false t g on =
          let i = one_got g in
          let end : at ≡ length s = omega (arith, ltb-false at (length s) t) in
          subst (λ m. Accepted e s xs m) i.1 (subst (λ l. Accepted e s l at) i.0 (record { chain = c; end = end; distinct = d; few = f }))

  pub row_accepted : row_of e s ≡ got xs n → Accepted e s xs n
  unfolding row_of
  row_accepted g = from_here (length s) [] 0 stop (omega arith) (omega arith) tt (omega arith) g

-- a row that was checked
pub record Known (e : Edition) (s : List ℕ) (count : ℕ) : Type 0 where
  pub entries : List Entry
  pub is : row_of e s ≡ got entries (length s)
  pub size : length entries ≡ count
  pub chain : Chain e s 0 entries (length s)
  pub distinct : Distinct (settings_in s entries)
  pub few : length entries ≤ limit

pub known : (e : Edition) (s : List ℕ) → Bytes s → (count : ℕ) → Whole e s count → Known e s count
known e s h count w = go (row_of e s) refl w
  where
    go : (y : Answer (List Entry)) → row_of e s ≡ y → count_read y ≡ Ok count → Known e s count
    go (got xs n) f g =
        let a = row_accepted e s h xs n f in
        record { entries = xs; is = f ∙ ap (got xs) a.end; size = cc; chain = subst (λ m. Chain e s 0 xs m) a.end a.chain; distinct = a.distinct; few = a.few }
    go (refused t) f g = zero_one (cc)

-- ── what is found ──

module _ (e : Edition) (s : List ℕ) (h : Bytes s) where
  -- the first that has the key, by its place
  pub data First (k : Key) (xs : List Entry) (upto : ℕ) : Option Entry → Type 0 where
    at_place : {x : Entry} → place_of s k upto xs < upto → place_of s k upto xs ≡ x.start → (n : ℕ) → entry_at e s x.start ≡ got x n → k ≡ key_in s x → First k xs upto (some x)
    nowhere : place_of s k upto xs ≡ upto → First k xs upto none

  pub first_place : {at upto : ℕ} {xs : List Entry} → Chain e s at xs upto → (k : Key) → First k xs upto (first_by (key_in s) k xs)
  unfolding place_of first_by
  first_place stop k = nowhere refl
  first_place {at} {upto} (link {m} {x} {xs} f c) k = go (entry_sound e s at x m h f) (ahead s h c) (first_place c k) (same_key k (key_in s x)) refl
    where
      later : (o : Option Entry) → First k xs upto o → place_of s k upto (x ∷ xs) ≡ place_of s k upto xs → First k (x ∷ xs) upto o
      later o (at_place a b n i j) e = at_place (omega (arith, a, e)) (e ∙ b) n i j
      later o (nowhere a) e = nowhere (e ∙ a)

      go : Spelt e s at x m → m ≤ upto → First k xs upto (first_by (key_in s) k xs) → (b : Bool) → same_key k (key_in s x) ≡ b → First k (x ∷ xs) upto (pick b (some x) (first_by (key_in s) k xs))
      go sp l rest true i =
          let is : place_of s k upto (x ∷ xs) ≡ x.start = rw i in
          at_place (omega (arith, is, forward s h sp, sp.read.start)) is m (ap (entry_at e s) sp.read.start ∙ f) (same_true k (key_in s x) i)
      go sp l rest false i = later _ rest (rw i)

  -- what stands where it is found
  held_first : (k : Key) (xs : List Entry) (o : Option Entry) → First k xs (length s) o → Ok (held_at e s (place_of s k (length s) xs)) ≡ says_held o
  unfolding held_at
  held_first k xs o (at_place {x} a b n i j) = rw (lt-ltb (place_of s k (length s) xs) (length s) a, b, i)
  held_first k xs o (nowhere a) = rw (le-ltb (place_of s k (length s) xs) (length s) (omega (arith, a)))

  pub found_at : (vendor property : ℕ) (serial : List ℕ) (count : ℕ) → Whole e s count → {q : ℕ} → Best e vendor property serial s q → Ok (held_at e s q) ≡ found_in e vendor property serial s
  unfolding best_of find_in
  found_at vendor property serial count w {q} b =
      let k = known e s h count w in
      ap (λ n. Ok (held_at e s n)) (b.best k.entries k.chain) ∙ by e refl k.entries k.chain ∙ ap (find_in e vendor property serial s) (sym k.is)
    where
      best-of : (xs : List Entry) (o p : Option Entry) → First (own_key vendor property serial) xs (length s) o → First (any_key vendor property) xs (length s) p
          → Ok (held_at e s (pick (ltb (place_of s (own_key vendor property serial) (length s) xs) (length s)) (place_of s (own_key vendor property serial) (length s) xs) (place_of s (any_key vendor property) (length s) xs))) ≡ says_held (or_else o p)
      best-of xs o p (at_place {x} a b n i j) g = rw (lt-ltb (place_of s (own_key vendor property serial) (length s) xs) (length s) a) (held_first (own_key vendor property serial) xs (some x) (at_place a b n i j))
      best-of xs o p (nowhere a) g = rw (le-ltb (place_of s (own_key vendor property serial) (length s) xs) (length s) (omega (arith, a))) (held_first (any_key vendor property) xs p g)

      by : (d : Edition) → d ≡ e → (xs : List Entry) → Chain e s 0 xs (length s) → Ok (held_at e s (best_of d vendor property serial s xs)) ≡ says_held (find_by (key_in s) d vendor property serial xs)
      by edition.One i xs c = held_first (any_key vendor property) xs _ (first_place c (any_key vendor property))
      by edition.Two i xs c = best-of xs _ _ (first_place c (own_key vendor property serial)) (first_place c (any_key vendor property))

pub found_refused : (e : Edition) (s : List ℕ) (vendor property : ℕ) (serial : List ℕ) {t : Told} → count_read (row_of e s) ≡ Err t → Err t ≡ found_in e vendor property serial s
unfolding find_in
found_refused e s vendor property serial {t} w = go (row_of e s) w
  where
    go : (y : Answer (List Entry)) → count_read y ≡ Err t → Err t ≡ find_in e vendor property serial s y
    go (got xs n) f = zero_one (cc)
    go (refused u) f = let same : u ≡ t = cc in ap Err (sym same)
