-- `store` answers as specs/StoreSays has it, from the row's own refusal to the bytes of the new row; and what is said there determines the answer and the output.
-- Assumes nothing.
use Rattle.std.specs.Prelude.{Err}
use mathlib.Core.Path.{◌≡◌, refl, ap, sym, ◌∙◌}
use mathlib.Core.Bool.{Bool, true, false}
use mathlib.Core.List.{List, [], ◌∷◌, ◌++◌}
use Prim.Native.Nat.{ℕ, suc}
use native.Mathlib.Omega.{arith}
use borrow.Author.Tests.{leb-true, leb-false, le-leb, lt-leb}
use lib.Dec.{leb}
use lib.ListN.{length, length-append}
use Rattle.layout.specs.Answer.{Told, Answer, got, refused, pick, means, bare}
use Rattle.layout.specs.Bytes.{Bytes}
use Rattle.layout.specs.Written.{says, no, Wrote}
use Rattle.layout.proofs.laws.Numbers.{zero_one}
use Rattle.settings.specs.Layout.{Key, Setting, same_key, holds, IsEntry, IsRow, limit}
use Rattle.settings.specs.Entry.{alone_in, setting_in}
use Rattle.settings.specs.Refusals.{FULL}
use Rattle.settings.specs.Row.{settings_in, row_of, count_read}
use Rattle.settings.specs.RowSays.{Held, here, later}
use Rattle.settings.specs.Store.{put, row_word, is_full, put_said, store_said, settings_of, setting_of}
use Rattle.settings.specs.StoreSays.{Stored, last, in_place, NewRow, StoreSays, of_row, of_entry, full, no_room, goes_in}
use Rattle.settings.specs.declared.entry.Edition.{Edition}
use Rattle.settings.specs.declared.entry.Entry.{Entry}
use Rattle.settings.proofs.Exact.{entries_word, row_complete, row_sound, alone_sound, alone_complete}
use Rattle.settings.proofs.Judged.{alone_judged, alone_one}
use Rattle.settings.proofs.RowSays.{not_held, not_holding, row_says, row_one}
use Rattle.settings.proofs.Rows.{same_true, true_same}
use Rattle.settings.proofs.Stored.{stored_rows_are_rows}
use Rattle.settings.proofs.WroteCases.{refuses, short_of, fits_in}

-- ── where it goes ──

-- a key that the first has not, and none of the others
pub not_over : {k : Key} {y : Setting} {rs : List Setting} → (k ≡ y.key → ⊥) → (Held k rs → ⊥) → Held k (y ∷ rs) → ⊥
not_over n f (here e) = n e
not_over n f (later m) = f m

more : {r y : Setting} {rs ts : List Setting} → (r.key ≡ y.key → ⊥) → Stored r rs ts → Stored r (y ∷ rs) (y ∷ ts)
more {y} n (last rs f) = last (y ∷ rs) (not_over n f)
more {y} n (in_place before old after f e) = in_place (y ∷ before) old after (not_over n f) e

pub nowhere : (k : Key) → Held k [] → ⊥
unfolding holds
nowhere k h = not_held k [] refl h

other_key : (r y : Setting) → (r.key ≡ y.key → ⊥) → same_key r.key y.key ≡ false
other_key r y n = go (same_key r.key y.key) refl
  where
    go : (b : Bool) → same_key r.key y.key ≡ b → b ≡ false
    go true e = absurd (n (same_true r.key y.key e))
    go false e = refl

placed : (r : Setting) (rs : List Setting) → Stored r rs (put r rs)
unfolding put
placed r [] = last [] (nowhere r.key)
placed r (y ∷ rs) = go (same_key r.key y.key) refl (placed r rs)
  where
    go : (b : Bool) → same_key r.key y.key ≡ b → Stored r rs (put r rs) → Stored r (y ∷ rs) (pick b (r ∷ rs) (y ∷ put r rs))
    go true e p = in_place [] y rs (nowhere r.key) (same_true r.key y.key e)
    go false e p = more (λ f. let g = true_same r.key y.key f in let z = sym e ∙ g in zero_one (cc)) p

-- and it goes nowhere else
appended : (r : Setting) (rs : List Setting) → (Held r.key rs → ⊥) → put r rs ≡ rs ++ (r ∷ [])
unfolding put
appended r [] n = refl
appended r (y ∷ rs) n = rw (other_key r y λ e. n (here e)) (ap (λ l. y ∷ l) (appended r rs λ h. n (later h)))

replaced_at : (r : Setting) (before : List Setting) (old : Setting) (after : List Setting) → (Held r.key before → ⊥) → r.key ≡ old.key → put r (before ++ (old ∷ after)) ≡ before ++ (r ∷ after)
unfolding put
replaced_at r [] old after n e = rw (true_same r.key old.key e)
replaced_at r (y ∷ before) old after n e = rw (other_key r y λ i. n (here i)) (ap (λ l. y ∷ l) (replaced_at r before old after (λ h. n (later h)) e))

placed_one : {r : Setting} {rs ts : List Setting} → Stored r rs ts → put r rs ≡ ts
placed_one {r} (last rs n) = appended r rs n
placed_one {r} (in_place before old after n e) = replaced_at r before old after n e

-- ── what is said ──

module _ (e : Edition) (s w : List ℕ) (hs : Bytes s) (hw : Bytes w) (old new : List ℕ) (answer : Answer (Unit {0})) (promised : Wrote (store_said (settings_of e s) (setting_of e w)) old answer new) where
  abbrev Says : Answer (Unit {0}) → List ℕ → Type 0
  Says = StoreSays e s w old

  module _ {rs : List Setting} {r : Setting} (row : IsRow e s rs) (entry : IsEntry e w r) where
    said : store_said (settings_of e s) (setting_of e w) ≡ put_said r rs
    unfolding store_said
    said = rw (row_complete e s rs row, alone_complete e w r entry)

    says_put : Says answer new
    unfolding put_said is_full
    says_put = go (holds r.key rs) refl (leb limit (length rs)) refl said
      where
        v : List ℕ
        v = row_word (put r rs)

        whole_row : is_full r.key rs ≡ false → NewRow e s w v
        whole_row f = record { readings = rs; reading = r; then_readings = put r rs; row_is = row; entry_is = entry; stored = placed r rs; is = stored_rows_are_rows (record { row = row; entry = entry; room = f; word = refl }) }

        in_row : is_full r.key rs ≡ false → store_said (settings_of e s) (setting_of e w) ≡ says v → (b : Bool) → leb (length v) (length old) ≡ b → Says answer new
        in_row f i true j = let l = leb-true (length v) (length old) j in let k = fits_in promised i l in rw (k.0, k.1) (goes_in (whole_row f) l)
        in_row f i false j = let l = leb-false (length v) (length old) j in let k = short_of promised i l in rw (k.0, k.1) (no_room (whole_row f) l)

        go : (a : Bool) → holds r.key rs ≡ a → (b : Bool) → leb limit (length rs) ≡ b → store_said (settings_of e s) (setting_of e w) ≡ pick (pick a false b) (no (bare FULL)) (says v) → Says answer new
        go true i b j k = in_row (rw i) k (leb (length v) (length old)) refl
        go false i false j k = in_row (rw (i, j)) k (leb (length v) (length old)) refl
        go false i true j k =
            let a = refuses promised k in
            rw (a.0, a.1) (full row entry (not_held r.key rs i) (omega (arith, row.few, leb-true limit (length rs) j)))

  -- the row's readings, where it is accepted, and the entry's
  entry_says : (rs : List Setting) → IsRow e s rs → (y : Answer Entry) → alone_in e w ≡ y → Says answer new
  unfolding store_said means
  entry_says rs row (got x n) i = says_put row (alone_sound e w (setting_in w x) hw x n i refl)
  entry_says rs row (refused t) i =
      let a = refuses promised {t = t} (rw (row_complete e s rs row, i)) in
      rw (a.0, a.1) (of_entry row (rw i at (alone_judged e w hw)))

  pub store_says : StoreSays e s w old answer new
  unfolding store_said means
  store_says = go (row_of e s) refl
    where
      go : (y : Answer (List Entry)) → row_of e s ≡ y → Says answer new
      go (got xs n) i = entry_says (settings_in s xs) (row_sound e s hs xs n i) (alone_in e w) refl
      go (refused t) i =
          let a = refuses promised {t = t} (rw i) in
          rw (a.0, a.1) (of_row (row_says e s hs (Err t) (ap count_read (sym i))))

  -- ── and no other answer, and no other output, is said of the same inputs ──

  row_refused : {t : Told} → count_read (row_of e s) ≡ Err t → store_said (settings_of e s) (setting_of e w) ≡ no t
  unfolding store_said means
  row_refused {t} f = go (row_of e s) f
    where
      go : (y : Answer (List Entry)) → count_read y ≡ Err t → store_said (means (settings_in s) y) (setting_of e w) ≡ no t
      go (got xs n) f = zero_one (cc)
      go (refused u) f = cc

  new_said : {v : List ℕ} → NewRow e s w v → store_said (settings_of e s) (setting_of e w) ≡ says v
  unfolding put_said is_full
  new_said {v} k = said k.row_is k.entry_is ∙ rw room (ap says (ap row_word (placed_one k.stored) ∙ sym (entries_word k.is.entries)))
    where
      more_one : {r : Setting} {rs ts : List Setting} → Stored r rs ts → holds r.key rs ≡ false → length ts ≡ suc (length rs)
      more_one {r} (last rs n) i = omega (arith, length-append rs (r ∷ []))
      more_one {r} (in_place before o after n f) i = absurd (not_held r.key (before ++ (o ∷ after)) i (among before f))
        where
          among : (before : List Setting) → r.key ≡ o.key → Held r.key (before ++ (o ∷ after))
          among [] f = here f
          among (y ∷ before) f = later (among before f)

      room : is_full k.reading.key k.readings ≡ false
      room = go (holds k.reading.key k.readings) refl
        where
          go : (b : Bool) → holds k.reading.key k.readings ≡ b → pick b false (leb limit (length k.readings)) ≡ false
          go true i = refl
          go false i = lt-leb limit (length k.readings) (omega (arith, more_one k.stored i, k.is.few))

  pub store_one : {y : Answer (Unit {0})} {m : List ℕ} → StoreSays e s w old y m → (answer ≡ y) × (new ≡ m)
  unfolding store_said means put_said is_full
  store_one (of_row f) = refuses promised (row_refused (row_one e s hs f))
  store_one (of_entry {rs} {t} row f) =
      let is = alone_one e w hw (alone_in e w) (refused t) (alone_judged e w hw) f in
      refuses promised (rw (row_complete e s rs row, is))
  store_one (full {rs} {r} row entry n l) = refuses promised (said row entry ∙ rw (not_holding r.key rs n, le-leb limit (length rs) (omega (arith, l))))
  store_one (no_room k l) = short_of promised (new_said k) l
  store_one (goes_in k l) = fits_in promised (new_said k) l
