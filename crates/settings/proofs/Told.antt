-- Which refusals of the settings have a place: 1 and 2 and no other; and it lies in the bytes that were lent, the row's for the row's entries and the new entry's for that one.
-- Each reader goes from field to field, so a line of the byte layer's laws a field is the whole argument. An entry's bytes are a front of the row's.
-- Assumes nothing.
use Rattle.wire.specs.Read.{Read, says_read}
use mathlib.Core.Path.{◌≡◌, subst}
use mathlib.Core.Bool.{Bool, true, false}
use mathlib.Core.List.{List, [], ◌∷◌, ◌++◌}
use Prim.Native.Nat.{ℕ, zero, suc, ◌-◌, ◌≤◌}
use native.Mathlib.Omega.{arith}
use lib.Dec.{leb, ltb, eqb}
use lib.ListN.{length, take}
use Rattle.layout.specs.Answer.{Told, Answer, got, refused, pick, means, bare}
use Rattle.layout.specs.Bytes.{number}
use Rattle.layout.specs.Refusals.{TRAIL, RECORD}
use Rattle.layout.specs.Written.{says, no}
use Rattle.layout.proofs.laws.Numbers.{zero_one}
use Rattle.layout.specs.Told.{PlacedExactly, Inside}
use Rattle.layout.proofs.laws.Told.{Telling, read, ended, spoilt, other, telling_same, plainly, Closed, Everywhere, everywhere, up_to, front_closed, telling_pick, telling_after, telling_span, telling_field, telling_exactly, telling_inside}
use Rattle.wire.specs.Layout.{shape}
use Rattle.wire.specs.Places.{filled_at}
use Rattle.wire.proofs.laws.Told.{text_telling, shape_telling}
use Rattle.settings.specs.Refusals.{EDITION, FULL}
use Rattle.settings.specs.Layout.{OWN, knows, Setting, holds, limit}
use Rattle.settings.specs.Entry.{serial_at, typed_at, fields_at, rest_at, whole_at, is_tidy, tidy_at, entry_at, alone_in, key_in, setting_in}
use Rattle.settings.specs.Row.{settings_in, row_from, row_of}
use Rattle.settings.specs.Store.{put, row_word, is_full, put_said, store_said, settings_of, setting_of}
use Rattle.settings.specs.declared.entry.Edition.{Edition}
use Rattle.settings.specs.declared.entry.Entry.{Entry}

module _ {P : ℕ → Type 0} (s : List ℕ) (closed : Closed P s) where
  serial_telling : (kind at : ℕ) → P at → Telling P (serial_at kind s at)
  unfolding serial_at
  serial_telling kind at h = telling_pick (eqb kind OWN) (λ _. text_telling s closed at h) λ _. read h

  fields_telling : (start kind at : ℕ) → P at → Telling P (fields_at start kind s at)
  unfolding fields_at typed_at
  fields_telling start kind at h =
      telling_after (telling_field s closed 4 number at h) λ vendor a i.
      telling_after (telling_field s closed 2 number a i) λ property b j.
      telling_after (serial_telling kind b j) λ serial c k.
      telling_after (telling_field s closed 2 number c k) λ type d l.
      telling_after (shape_telling s closed (shape type) d l) λ v n m. read m

module _ {P : ℕ → Type 0} (s : List ℕ) (closed : Closed P s) where
  rest_telling : (start len kind at : ℕ) → P at → Telling P (rest_at start len kind s at)
  unfolding rest_at
  rest_telling start len kind at h =
      telling_pick (leb 6 len)
      (λ _. telling_after (telling_span s closed at (len - 6) at h h) λ _ end i.
      telling_after (fields_telling (take end s) (front_closed s closed end) start kind at h) λ x n j.
      telling_pick (eqb n end) (λ _. read j) λ _. plainly TRAIL (omega arith))
      λ _. plainly RECORD (omega arith)

  module _ (e : Edition) where
    whole_telling : (at : ℕ) → P at → Telling P (whole_at e s at)
    unfolding whole_at
    whole_telling at h =
        telling_after (telling_field s closed 4 number at h) λ len a i.
        telling_after (telling_field s closed 2 number a i) λ kind b j.
        telling_pick (knows e kind) (λ _. rest_telling at len kind b j) λ _. plainly EDITION (omega arith)

    tidy_telling : (x : Entry) (n : ℕ) → P n → Telling P (tidy_at s x n)
    unfolding tidy_at
    tidy_telling x n h = telling_pick (is_tidy s x) (λ _. read h) λ _. plainly RECORD (omega arith)

    entry_telling : (at : ℕ) → P at → Telling P (entry_at e s at)
    unfolding entry_at
    entry_telling at h = telling_after (whole_telling at h) λ x n i. tidy_telling x n i

    alone_telling : P 0 → Telling P (alone_in e s)
    unfolding alone_in filled_at
    alone_telling h =
        telling_after (whole_telling 0 h) λ x n i.
        telling_after {A = Unit {0}} (telling_pick (ltb n (length s)) (λ _. plainly TRAIL (omega arith)) λ _. read i) λ _ m j. tidy_telling x n i

    from_telling : (fuel : ℕ) (xs : List Entry) (at : ℕ) → P at → Telling P (row_from e fuel xs s at)
    unfolding row_from
    from_telling zero xs at h = read h
    from_telling (suc fuel) xs at h =
        telling_pick (ltb at (length s))
        (λ _. telling_after (entry_telling at h) λ x n i.
        telling_pick (holds (key_in s x) (settings_in s xs)) (λ _. plainly RECORD (omega arith)) λ _.
        telling_pick (leb limit (length xs)) (λ _. plainly FULL (omega arith)) λ _. from_telling fuel (xs ++ (x ∷ [])) n i)
        λ _. read h

    row_telling : P 0 → Telling P (row_of e s)
    unfolding row_of
    row_telling h = from_telling (length s) [] 0 h

-- ── of the functions' own answers ──

module _ (e : Edition) (s : List ℕ) where
  pub entry_told : (at : ℕ) → at ≤ length s → (r : (Read Entry)) → says_read r ≡ entry_at e s at → PlacedExactly (says_read r) × Inside (length s) (says_read r)
  entry_told at h r promised =
      (telling_exactly (telling_same promised (entry_telling s (everywhere s) e at tt)), telling_inside (telling_same promised (entry_telling s (up_to s (omega arith)) e at h)))

  -- of the row's entries, in the row; every question gives the row's refusal
  pub row_told : PlacedExactly (row_of e s) × Inside (length s) (row_of e s)
  row_told = (telling_exactly (row_telling s (everywhere s) e tt), telling_inside (row_telling s (up_to s (omega arith)) e (omega arith)))

  -- of the new entry, in its own bytes
  pub alone_told : PlacedExactly (alone_in e s) × Inside (length s) (alone_in e s)
  alone_told = (telling_exactly (alone_telling s (everywhere s) e tt), telling_inside (alone_telling s (up_to s (omega arith)) e (omega arith)))

-- a store gives the row's refusal, the entry's, 18 or 9
module _ (e : Edition) (s w : List ℕ) where
  retold : {A B : Type 0} {P : ℕ → Type 0} {t : Told} → Telling {A = A} P (refused t) → Telling {A = B} P (refused t)
  retold (ended p h) = ended p h
  retold (spoilt p h) = spoilt p h
  retold (other n i j) = other n i j

  pub store_told : (t : Told) → store_said (settings_of e s) (setting_of e w) ≡ no t → PlacedExactly {A = Unit {0}} (refused t)
  unfolding store_said put_said means
  store_told t f = telling_exactly (row (row_of e s) (row_telling s (everywhere s) e tt) f)
    where
      full : (b : Bool) (bs : List ℕ) → pick b (no (bare FULL)) (says bs) ≡ no t → Telling {A = Unit {0}} Everywhere (refused t)
      full true bs f = let is : bare FULL ≡ t = cc in subst (λ u. Telling {A = Unit {0}} Everywhere (refused u)) is (plainly FULL (omega arith))
      full false bs f = zero_one (cc)

      entry : (rs : List Setting) (n : ℕ) (z : Answer Entry) → Telling Everywhere z → store_said (got rs n) (means (setting_in w) z) ≡ no t → Telling {A = Unit {0}} Everywhere (refused t)
      entry rs n (got x m) h f = full (is_full (key_in w x) rs) (row_word (put (setting_in w x) rs)) f
      entry rs n (refused u) h f = let is : u ≡ t = cc in subst (λ v. Telling {A = Unit {0}} Everywhere (refused v)) is (retold h)

      row : (y : Answer (List Entry)) → Telling Everywhere y → store_said (means (settings_in s) y) (setting_of e w) ≡ no t → Telling {A = Unit {0}} Everywhere (refused t)
      row (got xs n) h f = entry (settings_in s xs) n (alone_in e w) (alone_telling w (everywhere w) e tt) f
      row (refused u) h f = let is : u ≡ t = cc in subst (λ v. Telling {A = Unit {0}} Everywhere (refused v)) is (retold h)
