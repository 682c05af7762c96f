-- The newer value: the payload is taken where it is one value that fills it; and what is taken lies within the bytes that it is a part of, since every
-- part of a description does.
-- Assumes nothing.
use mathlib.Core.Path.{◌≡◌, refl, sym, subst}
use mathlib.Core.Bool.{Bool, true, false}
use mathlib.Core.List.{List}
use Prim.Native.Nat.{ℕ, ◌+◌, ◌≤◌}
use native.Mathlib.Omega.{arith}
use native.Mathlib.Nat.{le_refl}
use borrow.Author.Tests.{eq-eqb, ne_eqb, ltb-true, ltb-false}
use lib.Dec.{eqb, ltb}
use lib.ListN.{length}
use Rattle.layout.specs.Answer.{Told, Answer, got, refused, bare, pick, after}
use Rattle.layout.specs.Bytes.{Bytes}
use Rattle.layout.specs.Refusals.{TRAIL}
use Rattle.layout.proofs.laws.Numbers.{zero_one}
use Rattle.layout.proofs.laws.Told.{Telling, read, ended, spoilt, other, UpTo, up_to}
use Rattle.wire.specs.declared.later.Chosen.{Chosen}
use Rattle.wire.specs.Description.{PropInfo}
use Rattle.wire.specs.Layout.{shape}
use Rattle.wire.specs.Places.{Located, value_at, filled_at, filling_all}
use Rattle.wire.specs.Newer.{ends_at, fills, fresh, present, newer_from, newer_of}
use Rattle.wire.specs.Property.{property_at}
use Rattle.wire.proofs.Held.{held}
use Rattle.wire.proofs.laws.Told.{shape_telling}

-- ── the payload: whole exactly where it is one value that fills it ──

-- no value ends past the bytes
ends_within : {A : Type 0} {size : ℕ} {x : Answer A} → Telling (UpTo size) x → (a : A) (n : ℕ) → x ≡ got a n → n ≤ size
ends_within (read {n = m} h) a n e = let same : m ≡ n = cc in rw (← same) h
ends_within (ended p h) a n e = zero_one (cc)
ends_within (spoilt p h) a n e = zero_one (cc)
ends_within (other m i j) a n e = zero_one (cc)

module _ (t : ℕ) (s : List ℕ) where
  -- what follows a value that ends at a place
  abbrev closing : Bool → Located → ℕ → Answer Located
  closing b y m = after (pick b (refused (bare TRAIL)) (got (tt {0}) m)) λ _ end. got y end

  pub fills_whole : {l : Located} {n : ℕ} → got l n ≡ filling_all (value_at t) s → fills t s ≡ true
  unfolding filling_all filled_at after
  fills_whole {l} {n} e = go (value_at t s 0) (ends_within (shape_telling s (up_to s (le_refl (length s))) (shape t) 0 (omega arith))) e
    where
      ends : (y : Located) (m : ℕ) → m ≤ length s → (b : Bool) → ltb m (length s) ≡ b → got l n ≡ closing b y m → eqb m (length s) ≡ true
      ends y m h true f e = zero_one (cc)
      ends y m h false f e = eq-eqb m (length s) (omega (arith, ltb-false m (length s) f))

      go : (x : Answer Located) → ((a : Located) (m : ℕ) → x ≡ got a m → m ≤ length s) → got l n ≡ (after x λ y m. after (filled_at s m) λ _ end. got y end) → ends_at (length s) x ≡ true
      go (got y m) h e = ends y m (h y m refl) (ltb m (length s)) refl e
      go (refused r) h e = zero_one (cc)

  pub fills_other : {r : Told} → refused r ≡ filling_all (value_at t) s → fills t s ≡ false
  unfolding filling_all filled_at after
  fills_other {r} e = go (value_at t s 0) e
    where
      ends : (y : Located) (m : ℕ) → (b : Bool) → ltb m (length s) ≡ b → refused r ≡ closing b y m → eqb m (length s) ≡ false
      ends y m true f e = ne_eqb m (length s) (λ g. omega (arith, g, ltb-true m (length s) f))
      ends y m false f e = zero_one (cc)

      go : (x : Answer Located) → refused r ≡ (after x λ y m. after (filled_at s m) λ _ end. got y end) → ends_at (length s) x ≡ false
      go (got y m) e = ends y m (ltb m (length s)) refl e
      go (refused q) e = refl

-- ── its place ──

module _ (there : Bool) (d p : List ℕ) (h : Bytes d) where
  pub within : (newer_of there d p).start + (newer_of there d p).len ≤ length (pick (newer_of there d p).of_payload p d)
  within = go (property_at there d 0) (λ x n e. (held d h there x n e).current.within)
    where
      inside : (x : PropInfo) (b : Bool) → x.current.start + x.current.len ≤ length d
          → (pick b (fresh p) (present x)).start + (pick b (fresh p) (present x)).len ≤ length (pick (pick b (fresh p) (present x)).of_payload p d)
      inside x true k = omega arith
      inside x false k = k

      go : (y : Answer PropInfo) → ((x : PropInfo) (n : ℕ) → y ≡ got x n → x.current.start + x.current.len ≤ length d) → (newer_from y p).start + (newer_from y p).len ≤ length (pick (newer_from y p).of_payload p d)
      go (got x n) k = inside x (fills x.data_type p) (k x n refl)
      go (refused t) k = omega arith

-- so of any part that the promise allows
pub chosen_within : (there : Bool) (d p : List ℕ) → Bytes d → (n : Chosen) → n ≡ newer_of there d p
    → (n.start + n.len ≤ length p + length d) × (n.of_payload ≡ true → n.start + n.len ≤ length p) × (n.of_payload ≡ false → n.start + n.len ≤ length d)
chosen_within there d p h n e = subst (λ m. (m.start + m.len ≤ length p + length d) × (m.of_payload ≡ true → m.start + m.len ≤ length p) × (m.of_payload ≡ false → m.start + m.len ≤ length d)) (sym e) (of (newer_of there d p) (within there d p h))
  where
    of : (m : Chosen) → m.start + m.len ≤ length (pick m.of_payload p d) → (m.start + m.len ≤ length p + length d) × (m.of_payload ≡ true → m.start + m.len ≤ length p) × (m.of_payload ≡ false → m.start + m.len ≤ length d)
    of m k = (either m.of_payload k, λ f. rw f at k, λ f. rw f at k)
      where
        either : (b : Bool) → m.start + m.len ≤ length (pick b p d) → m.start + m.len ≤ length p + length d
        either true k = omega arith
        either false k = omega arith
