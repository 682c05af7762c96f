-- The editions: what edition 1 accepts, edition 2 accepts with the same entries, and finds for any serial what edition 1 finds; and a serial's own entry wins, wherever it stands.
-- Assumes nothing.
use mathlib.Core.Path.{◌≡◌, refl, ap, sym, subst}
use mathlib.Core.Bool.{Bool, true, false}
use mathlib.Core.List.{List, [], ◌∷◌, ◌++◌}
use mathlib.Core.Option.{some, none}
use Prim.Native.Nat.{ℕ, zero, suc}
use native.Mathlib.Omega.{arith}
use borrow.Author.Tests.{eqb-true}
use lib.Dec.{ltb, leb}
use lib.ListN.{length}
use Rattle.layout.specs.Answer.{got, refused, pick, after, bare}
use Rattle.layout.specs.Refusals.{RECORD}
use Rattle.settings.specs.Refusals.{FULL}
use Rattle.layout.specs.Bytes.{Bytes}
use Rattle.layout.proofs.laws.Reading.{parted, picked}
use Rattle.layout.proofs.laws.Numbers.{zero_one}
use Rattle.wire.specs.Places.{num_at}
use Rattle.settings.specs.Layout.{ANY, OWN, knows, Key, Setting, same_key, holds, limit, IsRow}
use Rattle.settings.specs.Entry.{rest_at, whole_at, entry_at, key_in, setting_in}
use Rattle.settings.specs.Row.{settings_in, behind, row_from, row_of, own_key, first_by, find_by, find_in, found_in}
use Rattle.settings.specs.Search.{Chain, stop, link}
use Rattle.settings.specs.declared.entry.Edition.TheVariants as edition
use Rattle.settings.specs.declared.entry.Entry.{Entry}
use Rattle.std.specs.Prelude.{Ok}
use Rattle.std.specs.declared.option.Option.TheVariants.{Some}
use Rattle.settings.proofs.Spelled.{entry_sound}
use Rattle.settings.proofs.Rows.{same_true, true_same}
use Rattle.settings.proofs.Accepted.{row_accepted}
use Rattle.settings.proofs.Puts.{key_of}
use Rattle.settings.proofs.Stored.{found_by, held_is}
use Rattle.settings.proofs.Exact.{distinct_before, row_complete}

-- ── what edition 1 accepts ──

knows_two : (kind : ℕ) → knows edition.One kind ≡ true → knows edition.Two kind ≡ true
knows_two kind e = rw e

module _ (s : List ℕ) where
  whole_two : (at : ℕ) (x : Entry) (n : ℕ) → whole_at edition.One s at ≡ got x n → whole_at edition.Two s at ≡ got x n
  unfolding whole_at after
  whole_two at x n f =
      let a = parted (num_at 4 s at) _ f in
      let b = parted (num_at 2 s a.1) _ a.3 in
      let k = picked (knows edition.One b.0) (rest_at at a.0 b.0 s b.1) _ b.3 in
      rw (a.2, b.2, knows_two b.0 k.0) k.1

  pub entry_two : (at : ℕ) (x : Entry) (n : ℕ) → entry_at edition.One s at ≡ got x n → entry_at edition.Two s at ≡ got x n
  unfolding entry_at after
  entry_two at x n f =
      let a = parted (whole_at edition.One s at) _ f in
      rw (whole_two at a.0 a.1 a.2) a.3

  row_two : (xs : List Entry) (n fuel : ℕ) (ys : List Entry) (at : ℕ) → row_from edition.One fuel ys s at ≡ got xs n → row_from edition.Two fuel ys s at ≡ got xs n
  unfolding row_from after
  row_two xs n zero ys at f = f
  row_two xs n (suc fuel) ys at f = test (ltb at (length s)) f (λ zs m. row_two xs n fuel zs m)
    where
      Onward : Type 0
      Onward = (zs : List Entry) (m : ℕ) → row_from edition.One fuel zs s m ≡ got xs n → row_from edition.Two fuel zs s m ≡ got xs n

      next : (x : Entry) (m : ℕ) (b l : Bool) → pick b (refused (bare RECORD)) (pick l (refused (bare FULL)) (row_from edition.One fuel (ys ++ (x ∷ [])) s m)) ≡ got xs n → Onward
          → pick b (refused (bare RECORD)) (pick l (refused (bare FULL)) (row_from edition.Two fuel (ys ++ (x ∷ [])) s m)) ≡ got xs n
      next x m true l f on = zero_one (cc)
      next x m false true f on = zero_one (cc)
      next x m false false f on = on (ys ++ (x ∷ [])) m f

      test : (b : Bool)
          → pick b (after (entry_at edition.One s at) λ x m. behind s ys x (row_from edition.One fuel (ys ++ (x ∷ [])) s m)) (got ys at) ≡ got xs n
          → Onward
          → pick b (after (entry_at edition.Two s at) λ x m. behind s ys x (row_from edition.Two fuel (ys ++ (x ∷ [])) s m)) (got ys at) ≡ got xs n
      test true f on =
          let a = parted (entry_at edition.One s at) _ f in
          rw (entry_two at a.0 a.1 a.2) (next a.0 a.1 (holds (key_in s a.0) (settings_in s ys)) (leb limit (length ys)) a.3 on)
      test false f on = f

  -- accepted with the same entries
  pub edition_two_accepts : (xs : List Entry) (n : ℕ) → row_of edition.One s ≡ got xs n → row_of edition.Two s ≡ got xs n
  unfolding row_of
  edition_two_accepts xs n f = row_two xs n (length s) [] 0 f

  -- no entry of edition 1 is for one serial
  none_own : Bytes s → (vendor property : ℕ) (serial : List ℕ) {at n : ℕ} {xs : List Entry} → Chain edition.One s at xs n → first_by (key_in s) (own_key vendor property serial) xs ≡ none
  unfolding first_by
  none_own h v p us stop = refl
  none_own h v p us {at} (link {m} {x} {xs} f c) = go (same_key (own_key v p us) (key_in s x)) refl (none_own h v p us c)
    where
      go : (b : Bool) → same_key (own_key v p us) (key_in s x) ≡ b → first_by (key_in s) (own_key v p us) xs ≡ none → pick b (some x) (first_by (key_in s) (own_key v p us) xs) ≡ none
      go true i r =
          let sp = entry_sound edition.One s at x m h f in
          let any : x.kind ≡ ANY = eqb-true x.kind ANY sp.read.known in
          let own : OWN ≡ x.kind = ap (λ k. k.kind) (same_true (own_key v p us) (key_in s x) i) in
          let z : ⊥ = omega (arith, any, own) in
          absurd z
      go false i r = r

  -- and finds for any serial what edition 1 finds
  pub edition_two_finds : Bytes s → (xs : List Entry) (n : ℕ) → row_of edition.One s ≡ got xs n → (vendor property : ℕ) (serial serial' : List ℕ)
      → found_in edition.Two vendor property serial s ≡ found_in edition.One vendor property serial' s
  unfolding find_in
  edition_two_finds h xs n f v p us us' =
      rw (edition_two_accepts xs n f, f, none_own h v p us (row_accepted edition.One s h xs n f).chain)

-- ── a serial's own entry wins ──

first_there : (k : Key) (before after : List Setting) (r : Setting) → holds k before ≡ false → r.key ≡ k → first_by key_of k (before ++ (r ∷ after)) ≡ some r
unfolding first_by holds
first_there k [] after r n e = rw (true_same k r.key (sym e))
first_there k (y ∷ before) after r n e = go (same_key k y.key) n (λ m. first_there k before after r m e)
  where
    go : (b : Bool) → pick b true (holds k before) ≡ false → (holds k before ≡ false → first_by key_of k (before ++ (r ∷ after)) ≡ some r) → pick b (some y) (first_by key_of k (before ++ (r ∷ after))) ≡ some r
    go true n f = zero_one (cc)
    go false n f = f n

-- wherever it stands in the row
pub own_wins : (s : List ℕ) (before after : List Setting) (r : Setting) → IsRow edition.Two s (before ++ (r ∷ after)) → (vendor property : ℕ) (serial : List ℕ) → r.key ≡ own_key vendor property serial
    → (x : Entry) × (found_in edition.Two vendor property serial s ≡ Ok (Some x)) × (setting_in s x ≡ r)
own_wins s before after r row v p us k =
    let rs = before ++ (r ∷ after) in
    let n : holds (own_key v p us) before ≡ false = subst (λ j. holds j before ≡ false) k (distinct_before before r after row.distinct) in
    let first : first_by key_of (own_key v p us) rs ≡ some r = first_there (own_key v p us) before after r n k in
    let is : find_by key_of edition.Two v p us rs ≡ some r = rw first in
    held_is (found_by edition.Two s rs (length s) (row_complete edition.Two s rs row) v p us) is
