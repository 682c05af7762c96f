-- Laws of `without` on readings, and the theorems of a removal, of the functions' own answers: no entry has the key after it, every other stands as it stood, and what is not held gives the row back.
-- Assumes nothing.
use Rattle.std.specs.Prelude.{Err}
use mathlib.Core.Path.{◌≡◌, refl, ap, sym, ◌∙◌, subst}
use mathlib.Core.Bool.{Bool, true, false}
use mathlib.Core.List.{List, [], ◌∷◌, ◌++◌}
use mathlib.Core.Option.{Option, some, none}
use Prim.Native.Nat.{ℕ, suc, ◌≤◌}
use native.Mathlib.Omega.{arith}
use borrow.Author.Tests.{leb-true, leb-false}
use lib.Dec.{leb}
use lib.ListN.{length}
use Rattle.layout.specs.Answer.{Answer, got, refused, pick, means}
use Rattle.layout.specs.Bytes.{Bytes}
use Rattle.layout.specs.Written.{says, no, Wrote}
use Rattle.layout.proofs.laws.Numbers.{zero_one}
use Rattle.settings.specs.Layout.{ANY, OWN, Key, Setting, same_key, holds, Distinct, Entries, one_more, IsRow}
use Rattle.settings.specs.Layout as layout
use Rattle.settings.specs.Row.{settings_in, row_of, count_read, any_key, own_key, first_by, or_else, find_by, found_in, Finds}
use Rattle.settings.specs.RowSays.{Held, here, later}
use Rattle.settings.specs.RemoveSays.{Removed, none_had, taken_out, LessRow, RemoveSays, of_row, no_room, goes_out}
use Rattle.settings.specs.Store.{without, entry_word, row_word, remove_said, settings_of}
use Rattle.settings.specs.declared.entry.Edition.{Edition}
use Rattle.settings.specs.declared.entry.Edition.TheVariants as edition
use Rattle.settings.specs.declared.entry.Entry.{Entry}
use Rattle.settings.proofs.Rows.{not_both, same_true, true_same, false_same}
use Rattle.settings.proofs.Puts.{key_of, first_none}
use Rattle.settings.proofs.Exact.{entries_word, row_complete, row_sound}
use Rattle.settings.proofs.RowSays.{row_says, row_one}
use Rattle.settings.proofs.Storing.{row_append}
use Rattle.settings.proofs.Stored.{found_by}
use Rattle.settings.proofs.StoreSays.{not_over, nowhere}
use Rattle.settings.proofs.WroteCases.{refuses, short_of, fits_in}

-- ── what is held after it ──

-- its own is not
pub without_own : (k : Key) (xs : List Setting) → Distinct xs → holds k (without k xs) ≡ false
unfolding without holds
without_own k [] d = refl
without_own k (y ∷ ys) d = go (same_key k y.key) refl (without_own k ys d.1)
  where
    go : (b : Bool) → same_key k y.key ≡ b → holds k (without k ys) ≡ false → holds k (pick b ys (y ∷ without k ys)) ≡ false
    go true e r = subst (λ i. holds i ys ≡ false) (sym (same_true k y.key e)) d.0
    go false e r = rw (e, r)

-- none that was not held is
without_new : (k j : Key) (xs : List Setting) → holds j xs ≡ false → holds j (without k xs) ≡ false
unfolding without holds
without_new k j [] e = refl
without_new k j (y ∷ ys) e = go (same_key k y.key) (same_key j y.key) refl e (λ f. without_new k j ys f)
  where
    go : (b c : Bool) → same_key j y.key ≡ c → pick c true (holds j ys) ≡ false → (holds j ys ≡ false → holds j (without k ys) ≡ false) → holds j (pick b ys (y ∷ without k ys)) ≡ false
    go b true f e r = zero_one (cc)
    go true false f e r = e
    go false false f e r = rw (f, r e)

without_distinct : (k : Key) (xs : List Setting) → Distinct xs → Distinct (without k xs)
unfolding without
without_distinct k [] d = d
without_distinct k (y ∷ ys) d = go (same_key k y.key) (without_distinct k ys d.1)
  where
    go : (b : Bool) → Distinct (without k ys) → Distinct (pick b ys (y ∷ without k ys))
    go true r = d.1
    go false r = (without_new k y.key ys d.0, r)

without_few : (k : Key) (xs : List Setting) → length (without k xs) ≤ length xs
unfolding without
without_few k [] = omega arith
without_few k (y ∷ ys) = go (same_key k y.key) (without_few k ys)
  where
    go : (b : Bool) → length (without k ys) ≤ length ys → length (pick b ys (y ∷ without k ys)) ≤ suc (length ys)
    go true r = omega arith
    go false r = omega arith

-- ── what is found after it ──

first_without : (k j : Key) (xs : List Setting) → same_key j k ≡ false → first_by key_of j (without k xs) ≡ first_by key_of j xs
unfolding without first_by
first_without k j [] n = refl
first_without k j (y ∷ ys) n = go (same_key k y.key) refl (first_without k j ys n)
  where
    go : (b : Bool) → same_key k y.key ≡ b → first_by key_of j (without k ys) ≡ first_by key_of j ys → first_by key_of j (pick b ys (y ∷ without k ys)) ≡ pick (same_key j y.key) (some y) (first_by key_of j ys)
    go true e r = let other : same_key j y.key ≡ false = subst (λ i. same_key j i ≡ false) (same_true k y.key e) n in rw other
    go false e r = ap (λ o. pick (same_key j y.key) (some y) o) r

-- ── where it stood ──

more : {k : Key} {y : Setting} {rs ts : List Setting} → (k ≡ y.key → ⊥) → Removed k rs ts → Removed k (y ∷ rs) (y ∷ ts)
more {y} n (none_had rs f) = none_had (y ∷ rs) (not_over n f)
more {y} n (taken_out before old after f e) = taken_out (y ∷ before) old after (not_over n f) e

removed_there : (k : Key) (rs : List Setting) → Removed k rs (without k rs)
unfolding without
removed_there k [] = none_had [] (nowhere k)
removed_there k (y ∷ rs) = go (same_key k y.key) refl (removed_there k rs)
  where
    go : (b : Bool) → same_key k y.key ≡ b → Removed k rs (without k rs) → Removed k (y ∷ rs) (pick b rs (y ∷ without k rs))
    go true e p = taken_out [] y rs (nowhere k) (same_true k y.key e)
    go false e p = more (λ f. not_both (true_same k y.key f) e) p

-- and nowhere else
pub kept_all : (k : Key) (rs : List Setting) → (Held k rs → ⊥) → without k rs ≡ rs
unfolding without
kept_all k [] n = refl
kept_all k (y ∷ rs) n = rw (false_same k y.key λ e. n (here e)) (ap (λ l. y ∷ l) (kept_all k rs λ h. n (later h)))

taken_at : (k : Key) (before : List Setting) (old : Setting) (after : List Setting) → (Held k before → ⊥) → k ≡ old.key → without k (before ++ (old ∷ after)) ≡ before ++ after
unfolding without
taken_at k [] old after n e = rw (true_same k old.key e)
taken_at k (y ∷ before) old after n e = rw (false_same k y.key λ i. n (here i)) (ap (λ l. y ∷ l) (taken_at k before old after (λ h. n (later h)) e))

removed_one : {k : Key} {rs ts : List Setting} → Removed k rs ts → without k rs ≡ ts
removed_one {k} (none_had rs n) = kept_all k rs n
removed_one {k} (taken_out before old after n e) = taken_at k before old after n e

-- ── rows without it are rows ──

without_entries : {e : Edition} {v : List ℕ} {rs : List Setting} (k : Key) → Entries e v rs → (t : List ℕ) × Entries e t (without k rs)
unfolding without
without_entries k layout.none = ([], layout.none)
without_entries {e} k (one_more {u} {v} {x} {xs} h hs) = go (same_key k x.key) (without_entries k hs)
  where
    go : (b : Bool) → (t : List ℕ) × Entries e t (without k xs) → (t : List ℕ) × Entries e t (pick b xs (x ∷ without k xs))
    go true q = (v, hs)
    go false q = (u ++ q.0, one_more h q.1)

module _ {e : Edition} {s : List ℕ} {rs : List Setting} (row : IsRow e s rs) (k : Key) where
  pub removed_is_row : IsRow e (row_word (without k rs)) (without k rs)
  removed_is_row =
      let p = without_entries k row.entries in
      let few = without_few k rs in
      record { entries = subst (λ v. Entries e v (without k rs)) (entries_word p.1) p.1; distinct = without_distinct k rs row.distinct; few = omega (arith, row.few) }

  pub removed_said : remove_said (settings_of e s) k ≡ says (row_word (without k rs))
  unfolding remove_said
  removed_said = rw (row_complete e s rs row)

  less_row : LessRow e s k (row_word (without k rs))
  less_row = record { readings = rs; then_readings = without k rs; row_is = row; removed = removed_there k rs; is = removed_is_row }

  -- what is not held gives the row back, byte for byte
  pub not_held_stays : (Held k rs → ⊥) → remove_said (settings_of e s) k ≡ says s
  not_held_stays n = removed_said ∙ ap says (ap row_word (kept_all k rs n) ∙ sym (entries_word row.entries))

less_said : {e : Edition} {s : List ℕ} {k : Key} {w : List ℕ} → LessRow e s k w → remove_said (settings_of e s) k ≡ says w
less_said {k} r = removed_said r.row_is k ∙ ap says (ap row_word (removed_one r.removed) ∙ sym (entries_word r.is.entries))

-- the row, and what was written: the same bytes before the entry and behind it
pub data Apart (s t : List ℕ) : Type 0 where
  cut_out : (front old rest : List ℕ) → s ≡ front ++ (old ++ rest) → t ≡ front ++ rest → Apart s t
  the_same : t ≡ s → Apart s t

pub others_keep_bytes : {e : Edition} {s : List ℕ} {k : Key} {w : List ℕ} → LessRow e s k w → Apart s w
unfolding row_word
others_keep_bytes {e} {s} {k} {w} r = go r.removed (entries_word r.row_is.entries) (entries_word r.is.entries)
  where
    go : {rs ts : List Setting} → Removed k rs ts → s ≡ row_word rs → w ≡ row_word ts → Apart s w
    go (none_had rs n) a b = the_same (b ∙ sym a)
    go (taken_out before old after n e) a b = cut_out (row_word before) (entry_word old) (row_word after) (a ∙ row_append before (old ∷ after)) (b ∙ row_append before after)

-- ── of the function's own answer ──

module _ (e : Edition) (s : List ℕ) (hs : Bytes s) (k : Key) (old new : List ℕ) (answer : Answer (Unit {0})) (promised : Wrote (remove_said (settings_of e s) k) old answer new) where
  pub remove_says : RemoveSays e s k old answer new
  unfolding remove_said means
  remove_says = go (row_of e s) refl
    where
      room : (rs : List Setting) → IsRow e s rs → (b : Bool) → leb (length (row_word (without k rs))) (length old) ≡ b → RemoveSays e s k old answer new
      room rs row true f = let l = leb-true _ (length old) f in let a = fits_in promised (removed_said row k) l in rw (a.0, a.1) (goes_out (less_row row k) l)
      room rs row false f = let l = leb-false _ (length old) f in let a = short_of promised (removed_said row k) l in rw (a.0, a.1) (no_room (less_row row k) l)

      go : (y : Answer (List Entry)) → row_of e s ≡ y → RemoveSays e s k old answer new
      go (got xs n) i = room (settings_in s xs) (row_sound e s hs xs n i) (leb (length (row_word (without k (settings_in s xs)))) (length old)) refl
      go (refused t) i =
          let a = refuses promised {t = t} (rw i) in
          rw (a.0, a.1) (of_row (row_says e s hs (Err t) (ap count_read (sym i))))

  -- and no other answer, and no other output, is said of the same inputs
  pub remove_one : {y : Answer (Unit {0})} {m : List ℕ} → RemoveSays e s k old y m → (answer ≡ y) × (new ≡ m)
  unfolding remove_said means
  remove_one (of_row {t} f) = refuses promised (go (row_of e s) (row_one e s hs f))
    where
      go : (y : Answer (List Entry)) → count_read y ≡ Err t → remove_said (means (settings_in s) y) k ≡ no t
      go (got xs n) f = zero_one (cc)
      go (refused u) f = cc
  remove_one (no_room r l) = short_of promised (less_said r) l
  remove_one (goes_out r l) = fits_in promised (less_said r) l

-- ── what is found after it ──

module _ {e : Edition} {s : List ℕ} {rs : List Setting} (row : IsRow e s rs) (k : Key) where
  after_it : (vendor property : ℕ) (serial : List ℕ) → Finds (row_word (without k rs)) (found_in e vendor property serial (row_word (without k rs))) (find_by key_of e vendor property serial (without k rs))
  after_it = found_by e (row_word (without k rs)) (without k rs) (length (row_word (without k rs))) (row_complete e (row_word (without k rs)) (without k rs) (removed_is_row row k))

  -- the key itself is found no more
  gone : first_by key_of k (without k rs) ≡ none
  gone = first_none k (without k rs) (without_own k rs row.distinct)

  -- every other key is found as before: neither the serial's own entry nor the one for any serial was taken out
  pub others_found : (vendor property : ℕ) (serial : List ℕ) → (k ≡ own_key vendor property serial → ⊥) → (k ≡ any_key vendor property → ⊥)
      → Finds (row_word (without k rs)) (found_in e vendor property serial (row_word (without k rs))) (find_by key_of e vendor property serial rs)
  others_found v p us m n = subst (Finds (row_word (without k rs)) (found_in e v p us (row_word (without k rs)))) (go e) (after_it v p us)
    where
      own : first_by key_of (own_key v p us) (without k rs) ≡ first_by key_of (own_key v p us) rs
      own = first_without k (own_key v p us) rs (false_same (own_key v p us) k (λ i. m (sym i)))

      any : first_by key_of (any_key v p) (without k rs) ≡ first_by key_of (any_key v p) rs
      any = first_without k (any_key v p) rs (false_same (any_key v p) k (λ i. n (sym i)))

      go : (d : Edition) → find_by key_of d v p us (without k rs) ≡ find_by key_of d v p us rs
      go edition.One = any
      go edition.Two = rw (own, any)

-- a serial's own entry taken out: what is found for it is the entry for any serial
pub own_gone : {s : List ℕ} {rs : List Setting} → IsRow edition.Two s rs → (vendor property : ℕ) (serial : List ℕ)
    → Finds (row_word (without (own_key vendor property serial) rs)) (found_in edition.Two vendor property serial (row_word (without (own_key vendor property serial) rs))) (first_by key_of (any_key vendor property) rs)
own_gone {s} {rs} row v p us =
    let k = own_key v p us in
    let any : first_by key_of (any_key v p) (without k rs) ≡ first_by key_of (any_key v p) rs = first_without k (any_key v p) rs (false_same (any_key v p) k (λ i. let z : ANY ≡ OWN = ap (λ j. j.kind) i in let f : ⊥ = omega (arith, z) in f)) in
    subst (Finds (row_word (without k rs)) (found_in edition.Two v p us (row_word (without k rs)))) (rw (gone row k, any)) (after_it row k v p us)

-- the entry for any serial taken out: in edition 1 nothing is found, in edition 2 only a serial's own
pub any_gone_one : {s : List ℕ} {rs : List Setting} → IsRow edition.One s rs → (vendor property : ℕ) (serial : List ℕ)
    → Finds (row_word (without (any_key vendor property) rs)) (found_in edition.One vendor property serial (row_word (without (any_key vendor property) rs))) none
any_gone_one {s} {rs} row v p us =
    let k = any_key v p in
    subst (Finds (row_word (without k rs)) (found_in edition.One v p us (row_word (without k rs)))) (gone row k) (after_it row k v p us)

pub any_gone_two : {s : List ℕ} {rs : List Setting} → IsRow edition.Two s rs → (vendor property : ℕ) (serial : List ℕ)
    → Finds (row_word (without (any_key vendor property) rs)) (found_in edition.Two vendor property serial (row_word (without (any_key vendor property) rs))) (first_by key_of (own_key vendor property serial) rs)
any_gone_two {s} {rs} row v p us =
    let k = any_key v p in
    let own : first_by key_of (own_key v p us) (without k rs) ≡ first_by key_of (own_key v p us) rs = first_without k (own_key v p us) rs (false_same (own_key v p us) k (λ i. let z : OWN ≡ ANY = ap (λ j. j.kind) i in let f : ⊥ = omega (arith, z) in f)) in
    subst (Finds (row_word (without k rs)) (found_in edition.Two v p us (row_word (without k rs)))) (rw (own, gone row k) (alone (first_by key_of (own_key v p us) rs))) (after_it row k v p us)
  where
    alone : (o : Option Setting) → or_else o none ≡ o
    alone (some x) = refl
    alone none = refl
