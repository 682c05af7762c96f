-- A row is accepted exactly where it is one by the grammar: entries from end to end, one for each key, not over the limit. Its readings determine its bytes, so it is cut in one way.
-- Assumes nothing.
use mathlib.Core.Path.{◌≡◌, refl, ap, sym, ◌∙◌, subst}
use mathlib.Core.Bool.{Bool, true, false}
use mathlib.Core.List.{List, [], ◌∷◌, ◌++◌, append_assoc, append-nil}
use mathlib.Core.Logic.{◌↔◌}
use Prim.Native.Nat.{ℕ, ◌+◌, ◌-◌, ◌≤◌}
use native.Mathlib.Omega.{arith}
use borrow.Author.Tests.{le-ltb}
use lib.Dec.{ltb}
use lib.ListN.{length, take, drop, length-append, length-map}
use Rattle.wire.specs.Places.{filled_at}
use lib.Seq.{take_at, drop_at}
use Rattle.layout.specs.Answer.{Answer, got, refused, pick, after, means}
use Rattle.layout.specs.Bytes.{Bytes, bytes}
use Rattle.layout.specs.Format.{Stands}
use Rattle.layout.proofs.laws.Numbers.{length_bytes, zero_one}
use Rattle.layout.proofs.laws.Reading.{parted, picked, one_got}
use Rattle.layout.proofs.laws.Words.{split, self}
use Rattle.settings.specs.Layout.{Key, Setting, same_key, holds, Distinct, limit, IsEntry, is_entry, Entries, none, one_more, IsRow}
use Rattle.settings.specs.Entry.{whole_at, is_tidy, tidy_at, entry_at, alone_in, key_in, setting_in}
use Rattle.settings.specs.Row.{settings_in, row_from, row_of}
use Rattle.settings.specs.Search.{Chain, stop, link}
use Rattle.settings.specs.Store.{entry_word, row_word, settings_of, setting_of}
use Rattle.settings.specs.declared.entry.Edition.{Edition}
use Rattle.settings.specs.declared.entry.Entry.{Entry}
use Rattle.settings.proofs.Spelled.{entry_sound, entry_complete, entry-word}
use Rattle.settings.proofs.Rows.{row_next, row_end}
use Rattle.settings.proofs.Accepted.{same_sym, row_accepted}
use Rattle.settings.proofs.Storing.{chain_word, alone_spelt, alone_word}

-- ── entries by the grammar, and as they are read ──

-- the bytes of entries are those of their readings
pub entries_word : {e : Edition} {w : List ℕ} {xs : List Setting} → Entries e w xs → w ≡ row_word xs
unfolding row_word
entries_word none = refl
entries_word (one_more {u} {v} {x} g h) = ap (λ a. a ++ v) (entry-word g) ∙ ap (λ b. entry_word x ++ b) (entries_word h)

pub entry_long : {e : Edition} {w : List ℕ} {x : Setting} → IsEntry e w x → 4 ≤ length w
entry_long (is_entry {w} known small g) = omega (arith, length-append (bytes 4 (4 + length w)) w, length_bytes 4 (4 + length w))

-- entries that stand one behind the other, cut at the first
pub entries_chain : {e : Edition} (s : List ℕ) {at n : ℕ} {w : List ℕ} {rs : List Setting} → n ≤ length s → Stands s at n w → Entries e w rs → (xs : List Entry) × Chain e s at xs n × (settings_in s xs ≡ rs)
entries_chain {e} s {at} {n} k st none = let same : at ≡ n = omega (arith, st.till) in ([], subst (λ m. Chain e s at [] m) same stop, refl)
entries_chain {e} s {at} {n} k st (one_more {u} {v} {x} g h) =
    let p = split u v st in
    let a = entry_complete e s at u (at + length u) x (omega (arith, p.1.till)) p.0 g in
    let b = entries_chain s {at = at + length u} k p.1 h in
    (a.0 ∷ b.0, link a.1 b.1, ap (λ y. y ∷ settings_in s b.0) a.2 ∙ ap (λ l. x ∷ l) b.2)

chain_entries : {e : Edition} (s : List ℕ) → Bytes s → {at n : ℕ} {xs : List Entry} → Chain e s at xs n → (w : List ℕ) × Entries e w (settings_in s xs)
chain_entries s h stop = ([], none)
chain_entries {e} s h {at} (link {m} {x} f c) = let sp = entry_sound e s at x m h f in let r = chain_entries s h c in (sp.word ++ r.0, one_more sp.is r.1)

-- ── one for each key ──

holds_append : (k : Key) (front bs : List Setting) → holds k (front ++ bs) ≡ false → (holds k front ≡ false) × (holds k bs ≡ false)
unfolding holds
holds_append k [] bs e = (refl, e)
holds_append k (a ∷ front) bs e = go (same_key k a.key) e (λ f. holds_append k front bs f)
  where
    go : (b : Bool) → pick b true (holds k (front ++ bs)) ≡ false → (holds k (front ++ bs) ≡ false → (holds k front ≡ false) × (holds k bs ≡ false)) → (pick b true (holds k front) ≡ false) × (holds k bs ≡ false)
    go true e r = zero_one (cc)
    go false e r = r e

holds_first : (k : Key) (b : Setting) (bs : List Setting) → holds k (b ∷ bs) ≡ false → same_key k b.key ≡ false
unfolding holds
holds_first k b bs e = go (same_key k b.key) e
  where
    go : (c : Bool) → pick c true (holds k bs) ≡ false → c ≡ false
    go true e = zero_one (cc)
    go false e = refl

-- none before it has its key
pub distinct_before : (front : List Setting) (b : Setting) (bs : List Setting) → Distinct (front ++ (b ∷ bs)) → holds b.key front ≡ false
unfolding holds
distinct_before [] b bs d = refl
distinct_before (a ∷ front) b bs d =
    let other = same_sym a.key b.key (holds_first a.key b bs (holds_append a.key front (b ∷ bs) d.0).1) in
    rw (other, distinct_before front b bs d.1)

settings_append : (s : List ℕ) (xs ys : List Entry) → settings_in s (xs ++ ys) ≡ settings_in s xs ++ settings_in s ys
settings_append s [] ys = refl
settings_append s (x ∷ xs) ys = ap (λ l. setting_in s x ∷ l) (settings_append s xs ys)

-- ── entries that stand so are accepted ──

-- up to the place behind them
pub chain_on : {e : Edition} (s : List ℕ) {w : List ℕ} {rs : List Setting} → Entries e w rs → {at n : ℕ} → Stands s at n w → n ≤ length s → (ys : List Entry) (fuel : ℕ) → length s - at ≤ fuel
    → Distinct (settings_in s ys ++ rs) → length ys + length rs ≤ limit → (zs : List Entry) × (left : ℕ) × (row_from e fuel ys s at ≡ row_from e left (ys ++ zs) s n) × (settings_in s zs ≡ rs) × (length s - n ≤ left)
chain_on {e} s none {at} {n} st within ys fuel k d f =
    let end : at ≡ n = omega (arith, st.till) in
    ([], fuel, ap (row_from e fuel ys s) end ∙ ap (λ l. row_from e fuel l s n) (sym (append-nil ys)), refl, omega (arith, end))
chain_on {e} s (one_more {u} {v} {x} {xs = rs} g h) {at} {n} st within ys fuel k d f =
    let p = split u v st in
    let long = entry_long g in
    let far : at + length u ≤ length s = omega (arith, p.1.till) in
    let a = entry_complete e s at u (at + length u) x far p.0 g in
    let y = a.0 in
    let is : setting_in s y ≡ x = a.2 in
    let new : holds (key_in s y) (settings_in s ys) ≡ false = subst (λ z. holds z.key (settings_in s ys) ≡ false) (sym is) (distinct_before (settings_in s ys) x rs d) in
    let moved : settings_in s (ys ++ (y ∷ [])) ++ rs ≡ settings_in s ys ++ (x ∷ rs) =
    ap (λ l. l ++ rs) (settings_append s ys (y ∷ []) ∙ ap (λ z. settings_in s ys ++ (z ∷ [])) is) ∙ append_assoc (settings_in s ys) (x ∷ []) rs in
    let r = chain_on s h p.1 within (ys ++ (y ∷ [])) (fuel - 1) (omega (arith, long)) (subst Distinct (sym moved) d) (omega (arith, length-append ys (y ∷ []), f)) in
    let next = row_next e s fuel ys at y (at + length u) (omega (arith, long)) k a.1 new (omega (arith, f)) in
    (y ∷ r.0, r.1, next ∙ r.2 ∙ ap (λ l. row_from e r.1 l s n) (append_assoc ys (y ∷ []) r.0), ap (λ z. z ∷ settings_in s r.0) is ∙ ap (λ l. x ∷ l) r.3, r.4)

-- ── a row ──

module _ (e : Edition) (s : List ℕ) where
  -- by its entries' places, and by their readings
  pub row_reads : (rs : List Setting) → IsRow e s rs → (xs : List Entry) × (row_of e s ≡ got xs (length s)) × (settings_in s xs ≡ rs)
  unfolding row_of
  row_reads rs r =
      let a = chain_on s r.entries (self s) (omega arith) [] (length s) (omega arith) r.distinct (omega (arith, r.few)) in
      (a.0, a.2 ∙ row_end e s a.1 a.0 (length s) (omega arith), a.3)

  pub row_complete : (rs : List Setting) → IsRow e s rs → settings_of e s ≡ got rs (length s)
  unfolding means
  row_complete rs r = let a = row_reads rs r in rw a.1 (ap (λ l. got l (length s)) a.2)

  pub row_sound : Bytes s → (xs : List Entry) (n : ℕ) → row_of e s ≡ got xs n → IsRow e s (settings_in s xs)
  row_sound h xs n f =
      let a = row_accepted e s h xs n f in
      let c = chain_entries s h a.chain in
      let chain : Chain e s 0 xs (length s) = subst (λ m. Chain e s 0 xs m) a.end a.chain in
      let is : c.0 ≡ s = entries_word c.1 ∙ sym (chain_word e s h chain) in
      record { entries = subst (λ w. Entries e w (settings_in s xs)) is c.1; distinct = a.distinct; few = omega (arith, length-map xs (setting_in s), a.few) }

  -- accepted, with these readings, exactly where it is a row of them
  pub row_exact : Bytes s → (rs : List Setting) → (settings_of e s ≡ got rs (length s)) ↔ IsRow e s rs
  unfolding means
  row_exact h rs = (λ f. go (row_of e s) refl f, row_complete rs)
    where
      go : (y : Answer (List Entry)) → row_of e s ≡ y → means (settings_in s) y ≡ got rs (length s) → IsRow e s rs
      go (got xs n) i f = subst (IsRow e s) (one_got f).0 (row_sound h xs n i)
      go (refused t) i f = zero_one (cc)

-- two rows with the same readings are the same bytes
pub one_row : {e e' : Edition} {w w' : List ℕ} {rs : List Setting} → IsRow e w rs → IsRow e' w' rs → w ≡ w'
one_row a b = entries_word a.entries ∙ sym (entries_word b.entries)

-- bytes are cut into entries in one way: what stands first is the same entry, and so is the rest
cut_at : {e : Edition} {w w' : List ℕ} {rs rs' : List Setting} → Entries e w rs → Entries e w' rs' → w ≡ w' → rs ≡ rs'
cut_at none none e = refl
cut_at none (one_more {u} {v} g h) e = let z : ⊥ = omega (arith, ap length e, length-append u v, entry_long g) in absurd z
cut_at (one_more {u} {v} g h) none e = let z : ⊥ = omega (arith, ap length e, length-append u v, entry_long g) in absurd z
cut_at {e = ed} (one_more {u} {v} {x} {xs} g h) (one_more {u = u'} {v = v'} {x = x'} {xs = xs'} g' h') e =
    let s = u ++ v in
    let here : Stands s 0 (length u) u = record { is = take_at u v (length u) refl; till = omega arith } in
    let here' : Stands s 0 (length u') u' = record { is = ap (λ l. take (length u') l) e ∙ take_at u' v' (length u') refl; till = omega arith } in
    let a = entry_complete ed s 0 u (length u) x (omega (arith, length-append u v)) here g in
    let b = entry_complete ed s 0 u' (length u') x' (omega (arith, ap length e, length-append u' v')) here' g' in
    let same = one_got (sym a.1 ∙ b.1) in
    let reading : x ≡ x' = sym a.2 ∙ ap (setting_in s) same.0 ∙ b.2 in
    let rest : v ≡ v' = sym (drop_at u v (length u) refl) ∙ ap (drop (length u)) e ∙ drop_at u' v' (length u) (sym same.1) in
    ap (λ y. y ∷ xs) reading ∙ ap (λ l. x' ∷ l) (cut_at h h' rest)

pub one_cut : {e : Edition} {w : List ℕ} {rs rs' : List Setting} → Entries e w rs → Entries e w rs' → rs ≡ rs'
one_cut a b = cut_at a b refl

-- ── an entry alone in its bytes ──

module _ (e : Edition) (w : List ℕ) (r : Setting) where
  pub alone_complete : IsEntry e w r → setting_of e w ≡ got r (length w)
  unfolding alone_in entry_at tidy_at filled_at after means
  alone_complete g =
      let a = entry_complete e w 0 w (length w) r (omega arith) (self w) g in
      let b = parted (whole_at e w 0) _ a.1 in
      let t = picked (is_tidy w b.0) (got b.0 b.1) _ b.3 in
      let i = one_got t.1 in
      let end : ltb b.1 (length w) ≡ false = le-ltb b.1 (length w) (omega (arith, i.1)) in
      rw (b.2, end, t.0) (ap (λ x. got (setting_in w x) b.1) i.0 ∙ ap (λ y. got y b.1) a.2 ∙ ap (got r) i.1)

  pub alone_sound : Bytes w → (x : Entry) (n : ℕ) → alone_in e w ≡ got x n → setting_in w x ≡ r → IsEntry e w r
  alone_sound h x n i same =
      let sp = alone_spelt e w h x n i in
      let is : sp.word ≡ w = entry-word sp.is ∙ sym (alone_word e w h x n i) in
      subst (λ v. IsEntry e v r) is (subst (IsEntry e sp.word) same sp.is)

  -- accepted, with that reading, exactly where it is an entry of it
  pub alone_exact : Bytes w → (setting_of e w ≡ got r (length w)) ↔ IsEntry e w r
  unfolding means
  alone_exact h = (λ f. go (alone_in e w) refl f, alone_complete)
    where
      go : (y : Answer Entry) → alone_in e w ≡ y → means (setting_in w) y ≡ got r (length w) → IsEntry e w r
      go (got x n) i f = alone_sound h x n i (one_got f).0
      go (refused t) i f = zero_one (cc)
