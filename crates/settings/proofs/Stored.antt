-- The theorems of a store, of the functions' own answers. A row that is accepted has readings; a store that is accepted writes the word of these readings with the entry's put among them.
-- That word is a row again, so what is found in it is what is found among those readings.
-- Assumes nothing.
use mathlib.Core.Path.{◌≡◌, refl, ap, sym, ◌∙◌, subst}
use mathlib.Core.Bool.{Bool, true, false}
use mathlib.Core.List.{List, [], ◌∷◌, ◌++◌}
use mathlib.Core.Option.{Option, some, none}
use Prim.Native.Nat.{ℕ}
use native.Mathlib.Omega.{arith}
use lib.ListN.{length}
use Rattle.layout.specs.Answer.{Answer, got, refused, pick, means, bare}
use Rattle.layout.specs.Bytes.{Bytes}
use Rattle.layout.specs.Written.{says, no}
use Rattle.layout.proofs.laws.Reading.{one_got}
use Rattle.layout.proofs.laws.Numbers.{zero_one}
use Rattle.settings.specs.Refusals.{FULL}
use Rattle.settings.specs.Layout.{ANY, OWN, Key, Setting, same_key, holds, IsEntry, Entries, one_more, IsRow}
use Rattle.settings.specs.Layout as layout
use Rattle.settings.specs.Entry.{alone_in, key_in, setting_in}
use Rattle.settings.specs.Row.{settings_in, row_of, any_key, own_key, first_by, or_else, find_by, says_held, Found, find_in, found_in, Finds, held, not_held}
use Rattle.settings.specs.Store.{put, row_word, is_full, put_said, store_said, settings_of, setting_of}
use Rattle.settings.specs.declared.entry.Edition.{Edition}
use Rattle.settings.specs.declared.entry.Edition.TheVariants as edition
use Rattle.settings.specs.declared.entry.Entry.{Entry}
use Rattle.std.specs.Prelude.{Ok}
use Rattle.std.specs.declared.option.Option.TheVariants.{Some}
use Rattle.settings.proofs.Rows.{false_same}
use Rattle.settings.proofs.Puts.{key_of, holds_other, put_distinct, put_few, first_own, first_none}
use Rattle.settings.proofs.Exact.{entries_word, row_complete, row_sound, alone_sound}

-- ── what is found, by the readings ──

abbrev option_map : (s : List ℕ) → Option Entry → Option Setting
option_map s (some x) = some (setting_in s x)
option_map s none = none

first_in : (s : List ℕ) (k : Key) (xs : List Entry) → option_map s (first_by (key_in s) k xs) ≡ first_by key_of k (settings_in s xs)
unfolding first_by
first_in s k [] = refl
first_in s k (x ∷ xs) = go (same_key k (key_in s x)) (first_in s k xs)
  where
    go : (b : Bool) → option_map s (first_by (key_in s) k xs) ≡ first_by key_of k (settings_in s xs) → option_map s (pick b (some x) (first_by (key_in s) k xs)) ≡ pick b (some (setting_in s x)) (first_by key_of k (settings_in s xs))
    go true r = refl
    go false r = r

else_in : (s : List ℕ) (o p : Option Entry) → option_map s (or_else o p) ≡ or_else (option_map s o) (option_map s p)
else_in s (some x) p = refl
else_in s none p = refl

find-in : (e : Edition) (vendor property : ℕ) (serial s : List ℕ) (xs : List Entry) → option_map s (find_by (key_in s) e vendor property serial xs) ≡ find_by key_of e vendor property serial (settings_in s xs)
find-in edition.One v p us s xs = first_in s (any_key v p) xs
find-in edition.Two v p us s xs =
    else_in s (first_by (key_in s) (own_key v p us) xs) (first_by (key_in s) (any_key v p) xs)
    ∙ ap (λ o. or_else o (option_map s (first_by (key_in s) (any_key v p) xs))) (first_in s (own_key v p us) xs) ∙ ap (λ o. or_else (first_by key_of (own_key v p us) (settings_in s xs)) o) (first_in s (any_key v p) xs)

-- in a row with these readings, what is found is what the definition finds among them
pub found_by : (e : Edition) (s : List ℕ) (rs : List Setting) (n : ℕ) → settings_of e s ≡ got rs n → (vendor property : ℕ) (serial : List ℕ) → Finds s (found_in e vendor property serial s) (find_by key_of e vendor property serial rs)
unfolding means find_in
found_by e s rs n f v p us = go (row_of e s) f
  where
    say : (o : Option Entry) → Finds s (says_held o) (option_map s o)
    say (some x) = held
    say none = not_held

    go : (y : Answer (List Entry)) → means (settings_in s) y ≡ got rs n → Finds s (find_in e v p us s y) (find_by key_of e v p us rs)
    go (got xs m) f =
        let is : option_map s (find_by (key_in s) e v p us xs) ≡ find_by key_of e v p us rs = find-in e v p us s xs ∙ ap (find_by key_of e v p us) (one_got f).0 in
        subst (Finds s (says_held (find_by (key_in s) e v p us xs))) is (say (find_by (key_in s) e v p us xs))
    go (refused t) f = zero_one (cc)

-- a reading that is found is that of an entry
pub held_is : {s : List ℕ} {y : Found} {o : Option Setting} {r : Setting} → Finds s y o → o ≡ some r → (x : Entry) × (y ≡ Ok (Some x)) × (setting_in s x ≡ r)
held_is (held {x}) i = (x, refl, cc)
held_is not_held i = zero_one (cc)

-- ── what was stored ──

-- the row had these readings, the entry that one, and these bytes are written
pub record Stores (e : Edition) (s w t : List ℕ) (rs : List Setting) (r : Setting) : Type 0 where
  pub row : IsRow e s rs
  pub entry : IsEntry e w r
  pub room : is_full r.key rs ≡ false
  pub word : t ≡ row_word (put r rs)

-- so it is with every store that is accepted
pub stored : (e : Edition) (s w : List ℕ) → Bytes s → Bytes w → (t : List ℕ) → store_said (settings_of e s) (setting_of e w) ≡ says t → (rs : List Setting) × (r : Setting) × Stores e s w t rs r
unfolding store_said put_said means
stored e s w hs hw t f = row (row_of e s) refl f
  where
    room : (xs : List Entry) (n : ℕ) → row_of e s ≡ got xs n → (x : Entry) (m : ℕ) → alone_in e w ≡ got x m → (b : Bool) → is_full (key_in w x) (settings_in s xs) ≡ b
        → pick b (no (bare FULL)) (says (row_word (put (setting_in w x) (settings_in s xs)))) ≡ says t → (rs : List Setting) × (r : Setting) × Stores e s w t rs r
    room xs n i x m j true k f = zero_one (cc)
    room xs n i x m j false k f =
        (settings_in s xs, setting_in w x, record { row = row_sound e s hs xs n i; entry = alone_sound e w (setting_in w x) hw x m j refl; room = k; word = cc })

    alone : (xs : List Entry) (n : ℕ) → row_of e s ≡ got xs n → (z : Answer Entry) → alone_in e w ≡ z → store_said (got (settings_in s xs) n) (means (setting_in w) z) ≡ says t → (rs : List Setting) × (r : Setting) × Stores e s w t rs r
    alone xs n i (got x m) j f = room xs n i x m j (is_full (key_in w x) (settings_in s xs)) refl f
    alone xs n i (refused u) j f = zero_one (cc)

    row : (y : Answer (List Entry)) → row_of e s ≡ y → store_said (means (settings_in s) y) (setting_of e w) ≡ says t → (rs : List Setting) × (r : Setting) × Stores e s w t rs r
    row (got xs n) i f = alone xs n i (alone_in e w) refl f
    row (refused u) i f = zero_one (cc)

-- ── stored rows are rows ──

put_entries : {e : Edition} {v w : List ℕ} {rs : List Setting} {r : Setting} → Entries e v rs → IsEntry e w r → (t : List ℕ) × Entries e t (put r rs)
unfolding put
put_entries {w} layout.none g = (w ++ [], one_more g layout.none)
put_entries {e} {w = w} {r = r} (one_more {u} {v} {x} {xs} h hs) g = go (same_key r.key x.key) (put_entries hs g)
  where
    go : (b : Bool) → (t : List ℕ) × Entries e t (put r xs) → (t : List ℕ) × Entries e t (pick b (r ∷ xs) (x ∷ put r xs))
    go true q = (w ++ v, one_more g hs)
    go false q = (u ++ q.0, one_more h q.1)

module _ {e : Edition} {s w t : List ℕ} {rs : List Setting} {r : Setting} (st : Stores e s w t rs r) where
  pub stored_rows_are_rows : IsRow e t (put r rs)
  stored_rows_are_rows =
      let p = put_entries st.row.entries st.entry in
      let is : p.0 ≡ t = entries_word p.1 ∙ sym st.word in
      record { entries = subst (λ v. Entries e v (put r rs)) is p.1; distinct = put_distinct r rs st.row.distinct; few = put_few r rs st.row.few st.room }

  -- so the same edition reads it, with those readings
  pub stored_reads : settings_of e t ≡ got (put r rs) (length t)
  stored_reads = row_complete e t (put r rs) stored_rows_are_rows

  -- ── found after stored ──

  pub found_after_stored : (vendor property : ℕ) (serial : List ℕ) → find_by key_of e vendor property serial (put r rs) ≡ some r → (x : Entry) × (found_in e vendor property serial t ≡ Ok (Some x)) × (setting_in t x ≡ r)
  found_after_stored v p us f = held_is (found_by e t (put r rs) (length t) stored_reads v p us) f

-- an entry for one serial, by that serial
pub own_found : {s w t : List ℕ} {rs : List Setting} {r : Setting} → Stores edition.Two s w t rs r → (vendor property : ℕ) (serial : List ℕ) → r.key ≡ own_key vendor property serial
    → (x : Entry) × (found_in edition.Two vendor property serial t ≡ Ok (Some x)) × (setting_in t x ≡ r)
own_found {rs} {r} st v p us k = found_after_stored st v p us (rw (ap (λ j. first_by key_of j (put r rs)) (sym k) ∙ first_own r rs))

-- an entry for any serial: in edition 1, and in edition 2 for every serial that has no entry of its own
pub any_found_one : {s w t : List ℕ} {rs : List Setting} {r : Setting} → Stores edition.One s w t rs r → (vendor property : ℕ) (serial : List ℕ) → r.key ≡ any_key vendor property
    → (x : Entry) × (found_in edition.One vendor property serial t ≡ Ok (Some x)) × (setting_in t x ≡ r)
any_found_one {rs} {r} st v p us k = found_after_stored st v p us (ap (λ j. first_by key_of j (put r rs)) (sym k) ∙ first_own r rs)

not_own : (r : Setting) (v p : ℕ) (us : List ℕ) → r.key ≡ any_key v p → same_key (own_key v p us) r.key ≡ false
not_own r v p us k = false_same (own_key v p us) r.key (λ i. let z : OWN ≡ ANY = ap (λ j. j.kind) (i ∙ k) in let f : ⊥ = omega (arith, z) in f)

pub any_found_two : {s w t : List ℕ} {rs : List Setting} {r : Setting} → Stores edition.Two s w t rs r → (vendor property : ℕ) (serial : List ℕ) → r.key ≡ any_key vendor property → holds (own_key vendor property serial) rs ≡ false
    → (x : Entry) × (found_in edition.Two vendor property serial t ≡ Ok (Some x)) × (setting_in t x ≡ r)
any_found_two {rs} {r} st v p us k n =
    let none_own : first_by key_of (own_key v p us) (put r rs) ≡ none = first_none (own_key v p us) (put r rs) (holds_other (own_key v p us) r rs (not_own r v p us k) ∙ n) in
    found_after_stored st v p us (rw none_own (ap (λ j. first_by key_of j (put r rs)) (sym k) ∙ first_own r rs))
