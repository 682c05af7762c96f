-- What a store leaves: every other key answers as before, every other entry keeps its bytes and its order; and what storing once more does.
-- Assumes nothing.
use mathlib.Core.Path.{◌≡◌, refl, ap, sym, ◌∙◌, subst}
use mathlib.Core.Bool.{Bool, true, false}
use mathlib.Core.List.{List, [], ◌∷◌, ◌++◌, append-nil}
use mathlib.Core.Option.{Option}
use Prim.Native.Nat.{ℕ, ◌<◌}
use native.Mathlib.Omega.{arith}
use mathlib.Core.Logic.{◌⊎◌, inl, inr}
use borrow.Author.Tests.{lt-leb}
use lib.Dec.{leb}
use lib.ListN.{length}
use Rattle.layout.specs.Answer.{got, pick}
use Rattle.layout.specs.Written.{says}
use Rattle.settings.specs.Layout.{ANY, OWN, Setting, same_key, holds, limit, IsEntry, IsRow}
use Rattle.settings.specs.Row.{any_key, own_key, first_by, find_by, found_in, Finds}
use Rattle.settings.specs.Store.{put, entry_word, row_word, is_full, put_said, store_said, settings_of, setting_of}
use Rattle.settings.specs.declared.entry.Edition.{Edition}
use Rattle.settings.specs.declared.entry.Edition.TheVariants as edition
use Rattle.settings.proofs.Rows.{false_same}
use Rattle.settings.proofs.Exact.{entries_word, row_complete, alone_complete}
use Rattle.settings.proofs.Spelled.{entry-word}
use Rattle.settings.proofs.Puts.{key_of, holds_own, Put, in_place, last, where_put, put_put, put_put_size, put_again, first_other, first_some}
use Rattle.settings.proofs.Storing.{row_append}
use Rattle.settings.proofs.Stored.{found_by, Stores, stored_reads}

-- ── others stay: what is found ──

module _ {e : Edition} {s w t : List ℕ} {rs : List Setting} {r : Setting} (st : Stores e s w t rs r) where
  -- one reading is found before and after, or none both times; only its place may differ
  pub record Same (vendor property : ℕ) (serial : List ℕ) : Type 0 where
    pub reading : Option Setting
    pub before : Finds s (found_in e vendor property serial s) reading
    pub after : Finds t (found_in e vendor property serial t) reading

  same : (v p : ℕ) (us : List ℕ) → find_by key_of e v p us (put r rs) ≡ find_by key_of e v p us rs → Same v p us
  same v p us f = record {
    reading = find_by key_of e v p us rs;
    before = found_by e s rs (length s) (row_complete e s rs st.row) v p us;
    after = subst (Finds t (found_in e v p us t)) f (found_by e t (put r rs) (length t) (stored_reads st) v p us);
  }

  -- neither the serial's own entry nor the one for any serial is the one that was stored
  pub others_stay : (vendor property : ℕ) (serial : List ℕ) → (r.key ≡ own_key vendor property serial → ⊥) → (r.key ≡ any_key vendor property → ⊥) → Same vendor property serial
  others_stay v p us m n =
      let own = first_other (own_key v p us) r rs (false_same (own_key v p us) r.key (λ i. m (sym i))) in
      let any = first_other (any_key v p) r rs (false_same (any_key v p) r.key (λ i. n (sym i))) in
      same v p us (go e own any)
    where
      go : (d : Edition) → first_by key_of (own_key v p us) (put r rs) ≡ first_by key_of (own_key v p us) rs → first_by key_of (any_key v p) (put r rs) ≡ first_by key_of (any_key v p) rs
          → find_by key_of d v p us (put r rs) ≡ find_by key_of d v p us rs
      go edition.One own any = any
      go edition.Two own any = rw (own, any)

-- edition 2: a serial that has an entry of its own is not touched by one for any serial
pub own_stays : {s w t : List ℕ} {rs : List Setting} {r : Setting} (st : Stores edition.Two s w t rs r) (vendor property : ℕ) (serial : List ℕ) → r.key ≡ any_key vendor property → holds (own_key vendor property serial) rs ≡ true
    → Same st vendor property serial
own_stays {rs} {r} st v p us k h =
    let f = first_some (own_key v p us) rs h in
    let other : same_key (own_key v p us) r.key ≡ false = false_same (own_key v p us) r.key (λ i. let z : OWN ≡ ANY = ap (λ j. j.kind) (i ∙ k) in let g : ⊥ = omega (arith, z) in g) in
    let own = first_other (own_key v p us) r rs other in
    same st v p us (rw (own, f.1))

-- edition 1: the serial is not looked at, so an entry for another pair is not touched
pub pair_stays : {s w t : List ℕ} {rs : List Setting} {r : Setting} (st : Stores edition.One s w t rs r) (vendor property : ℕ) (serial : List ℕ) → (r.key ≡ any_key vendor property → ⊥) → Same st vendor property serial
pair_stays {rs} {r} st v p us n = same st v p us (first_other (any_key v p) r rs (false_same (any_key v p) r.key (λ i. n (sym i))))

-- ── others stay: their bytes, and their order ──

-- the row, and what was written: the same bytes before the entry's place and behind it
pub data Beside (s w t : List ℕ) : Type 0 where
  -- in place of the one that had its key, with as many entries before it
  replaced : (front old rest : List ℕ) → s ≡ front ++ (old ++ rest) → t ≡ front ++ (w ++ rest) → Beside s w t
  -- or last
  added : t ≡ s ++ w → Beside s w t

pub others_keep_bytes : {e : Edition} {s w t : List ℕ} {rs : List Setting} {r : Setting} → Stores e s w t rs r → Put r rs (put r rs) × Beside s w t
unfolding row_word
others_keep_bytes {s} {w} {t} {rs} {r} st = (where_put r rs, go (put r rs) (where_put r rs) st.word)
  where
    row_is : s ≡ row_word rs
    row_is = entries_word st.row.entries

    entry_is : entry_word r ≡ w
    entry_is = sym (entry-word st.entry)

    go : (zs : List Setting) → Put r rs zs → t ≡ row_word zs → Beside s w t
    go zs (in_place before after y i k n) f =
        replaced (row_word before) (entry_word y) (row_word after) (row_is ∙ ap row_word i ∙ row_append before (y ∷ after))
        (f ∙ row_append before (r ∷ after) ∙ ap (λ v. row_word before ++ (v ++ row_word after)) entry_is)
    go zs (last n) f = added (f ∙ row_append rs (r ∷ []) ∙ ap (λ v. v ++ (entry_word r ++ [])) (sym row_is) ∙ ap (λ v. s ++ v) (append-nil (entry_word r) ∙ entry_is))

-- ── again is the same ──

-- what a store has to say of a row and an entry with these readings
says_put : (e : Edition) (s w : List ℕ) {rs : List Setting} {r : Setting} {n m : ℕ} → settings_of e s ≡ got rs n → setting_of e w ≡ got r m → is_full r.key rs ≡ false
    → store_said (settings_of e s) (setting_of e w) ≡ says (row_word (put r rs))
unfolding store_said put_said
says_put e s w f g k = rw (f, g, k)

not_full : (r : Setting) (xs : List Setting) → holds r.key xs ≡ true → is_full r.key xs ≡ false
unfolding is_full
not_full r xs h = rw h

few_room : (r : Setting) (xs : List Setting) → length xs < limit → is_full r.key xs ≡ false
unfolding is_full
few_room r xs l = go (holds r.key xs)
  where
    go : (b : Bool) → pick b false (leb limit (length xs)) ≡ false
    go true = refl
    go false = lt-leb limit (length xs) l

-- the same entry once more: the same row, byte for byte
pub again_is_the_same : {e : Edition} {s w t : List ℕ} {rs : List Setting} {r : Setting} → Stores e s w t rs r → store_said (settings_of e t) (setting_of e w) ≡ says t
again_is_the_same {e} {s} {w} {t} {rs} {r} st =
    says_put e t w (stored_reads st) (alone_complete e w r st.entry) (not_full r (put r rs) (holds_own r rs)) ∙ ap (λ l. says (row_word l)) (put_again r rs) ∙ ap says (sym st.word)

-- of two stores with one key the second decides, and there are as many entries as after the first
pub the_second_decides : {e : Edition} {s w w' t : List ℕ} {rs : List Setting} {r r' : Setting} → Stores e s w t rs r → IsEntry e w' r' → r.key ≡ r'.key
    → (store_said (settings_of e t) (setting_of e w') ≡ says (row_word (put r' rs))) × (length (put r' (put r rs)) ≡ length (put r rs))
the_second_decides {e} {w' = w'} {t} {rs} {r} {r'} st g k =
    let full : is_full r'.key (put r rs) ≡ false = not_full r' (put r rs) (subst (λ j. holds j (put r rs) ≡ true) k (holds_own r rs)) in
    (says_put e t w' (stored_reads st) (alone_complete e w' r' g) full ∙ ap (λ l. says (row_word l)) (put_put r r' rs k), put_put_size r r' rs k)

-- ── what is stored ──

module _ {e : Edition} {s w : List ℕ} {rs : List Setting} {r : Setting} (row : IsRow e s rs) (entry : IsEntry e w r) where
  -- an entry is stored where its key is held, or where fewer are held than a row can have
  pub store_takes : (holds r.key rs ≡ true) ⊎ (length rs < limit) → (store_said (settings_of e s) (setting_of e w) ≡ says (row_word (put r rs))) × Stores e s w (row_word (put r rs)) rs r
  store_takes h =
      let free = room h in
      (says_put e s w (row_complete e s rs row) (alone_complete e w r entry) free, record { row = row; entry = entry; room = free; word = refl })
    where
      room : (holds r.key rs ≡ true) ⊎ (length rs < limit) → is_full r.key rs ≡ false
      room (inl i) = not_full r rs i
      room (inr l) = few_room r rs l
