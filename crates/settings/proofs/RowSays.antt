-- `check_row` answers as specs/RowSays has it: what stands before the next entry is a row by itself, read entry by entry. What is said there determines the answer.
-- Assumes nothing.
use Rattle.std.specs.Prelude.{Ok}
use Rattle.std.specs.declared.result.Result.{Result}
use Rattle.layout.specs.declared.Refusal.{Refusal}
use mathlib.Core.Path.{◌≡◌, refl, ap, sym, ◌∙◌, subst}
use mathlib.Core.Bool.{Bool, true, false}
use mathlib.Core.List.{List, [], ◌∷◌, ◌++◌, append-nil, append_assoc}
use Prim.Native.Nat.{ℕ, zero, suc, ◌+◌, ◌-◌, ◌≤◌, ◌<◌}
use native.Mathlib.Omega.{arith}
use borrow.Author.Tests.{ltb-true, ltb-false, lt-ltb, leb-true, leb-false, le-leb}
use lib.Dec.{ltb, leb}
use lib.ListN.{length, take, drop, length-append, length-map, length-drop}
use lib.Seq.{take_all, take-add, length-take-le}
use Rattle.layout.specs.Answer.{Answer, got, refused, pick, after, bare}
use Rattle.layout.specs.Bytes.{Bytes}
use Rattle.layout.specs.Format.{Stands}
use Rattle.layout.specs.Refusals.{RECORD}
use Rattle.layout.proofs.laws.Numbers.{Bytes-drop, zero_one}
use Rattle.settings.specs.Refusals.{FULL}
use Rattle.settings.specs.Layout.{Key, Setting, same_key, holds, Distinct, IsEntry, Entries, none, one_more, limit, IsRow}
use Rattle.settings.specs.Entry.{entry_at, key_in, setting_in}
use Rattle.settings.specs.Row.{settings_in, behind, row_from, row_of, count_read}
use Rattle.settings.specs.RowSays.{Held, here, later, Next, RowSays, whole, of_entry, twice, full}
use Rattle.settings.specs.declared.entry.Edition.{Edition}
use Rattle.settings.specs.declared.entry.Entry.{Entry}
use Rattle.settings.proofs.Accepted.{settings_snoc, distinct_snoc}
use Rattle.settings.proofs.Exact.{entry_long, chain_on, row_reads}
use Rattle.settings.proofs.Judged.{entry_judged, entry_one}
use Rattle.settings.proofs.Rows.{same_true, true_same, forward}
use Rattle.settings.proofs.Spelled.{Spelt, entry_sound, entry_complete}

-- ── a key among entries ──

pub held : (k : Key) (xs : List Setting) → holds k xs ≡ true → Held k xs
unfolding holds
held k [] e = zero_one (cc)
held k (x ∷ xs) e = go (same_key k x.key) refl e (λ f. held k xs f)
  where
    go : (b : Bool) → same_key k x.key ≡ b → pick b true (holds k xs) ≡ true → (holds k xs ≡ true → Held k xs) → Held k (x ∷ xs)
    go true f e r = here (same_true k x.key f)
    go false f e r = later (r e)

pub not_held : (k : Key) (xs : List Setting) → holds k xs ≡ false → Held k xs → ⊥
unfolding holds
not_held k [] e x = elim x [ ]
not_held k (x ∷ xs) e (here f) = let g : same_key k x.key ≡ true = true_same k x.key f in let h : true ≡ false = rw g at e in zero_one (cc)
not_held k (x ∷ xs) e (later m) = go (same_key k x.key) e (λ f. not_held k xs f m)
  where
    go : (b : Bool) → pick b true (holds k xs) ≡ false → (holds k xs ≡ false → ⊥) → ⊥
    go true e r = zero_one (cc)
    go false e r = r e

pub holding : (k : Key) (xs : List Setting) → Held k xs → holds k xs ≡ true
holding k xs h = go (holds k xs) refl
  where
    go : (b : Bool) → holds k xs ≡ b → b ≡ true
    go true e = refl
    go false e = absurd (not_held k xs e h)

pub not_holding : (k : Key) (xs : List Setting) → (Held k xs → ⊥) → holds k xs ≡ false
not_holding k xs n = go (holds k xs) refl
  where
    go : (b : Bool) → holds k xs ≡ b → b ≡ false
    go true e = absurd (n (held k xs e))
    go false e = refl

-- ── one entry more ──

entries_snoc : {e : Edition} {u w : List ℕ} {xs : List Setting} {x : Setting} → Entries e u xs → IsEntry e w x → Entries e (u ++ w) (xs ++ (x ∷ []))
entries_snoc {e} {w = w} {x = x} none g = subst (λ v. Entries e v (x ∷ [])) (append-nil w) (one_more g none)
entries_snoc {e} {w = w} {xs = ys} {x = x} (one_more {u = a} {v = b} {xs = xs} h t) g = subst (λ v. Entries e v (ys ++ (x ∷ []))) (sym (append_assoc a b w)) (one_more h (entries_snoc t g))

module _ (e : Edition) (s : List ℕ) (h : Bytes s) where
  -- those that were accepted up to a place, by their readings
  record Front (ys : List Entry) (at : ℕ) : Type 0 where
    entries : Entries e (take at s) (settings_in s ys)
    distinct : Distinct (settings_in s ys)
    few : length ys ≤ limit
    within : at ≤ length s

  front_row : {ys : List Entry} {at : ℕ} → Front ys at → IsRow e (take at s) (settings_in s ys)
  front_row {ys} f = record { entries = f.entries; distinct = f.distinct; few = omega (arith, length-map ys (setting_in s), f.few) }

  module _ {ys : List Entry} {at : ℕ} (f : Front ys at) {x : Entry} {m : ℕ} (a : entry_at e s at ≡ got x m) where
    sp : Spelt e s at x m
    sp = entry_sound e s at x m h a

    place : m ≡ at + length sp.word
    place = sp.there.till

    next : Next e s at (setting_in s x)
    next = record { size = length sp.word; within = omega (arith, place, sp.read.within); is = rw sp.there.is sp.is }

    front_more : holds (key_in s x) (settings_in s ys) ≡ false → length ys < limit → Front (ys ++ (x ∷ [])) m
    front_more new less = record {
      entries = subst (λ rs. Entries e (take m s) rs) (sym (settings_snoc s ys x)) (subst (λ u. Entries e u (settings_in s ys ++ (setting_in s x ∷ []))) (sym both) (entries_snoc f.entries sp.is));
      distinct = subst Distinct (sym (settings_snoc s ys x)) (distinct_snoc (settings_in s ys) (setting_in s x) f.distinct new);
      few = omega (arith, length-append ys (x ∷ []));
      within = sp.read.within;
    }
      where
        both : take m s ≡ take at s ++ sp.word
        both = ap (λ n. take n s) place ∙ take-add at (length sp.word) s ∙ ap (λ w. take at s ++ w) sp.there.is

  -- ── the row from a place on ──

  from_here : (fuel : ℕ) (ys : List Entry) (at : ℕ) → Front ys at → length s - at ≤ fuel → RowSays e s (count_read (row_from e fuel ys s at))
  unfolding row_from after
  from_here zero ys at f k = done ys at f (omega arith)
    where
      done : (ys : List Entry) (at : ℕ) → Front ys at → length s ≤ at → RowSays e s (count_read (got ys at))
      done ys at f k =
          let all : take at s ≡ s = take_all at s k in
          subst (λ n. RowSays e s (Ok n)) (length-map ys (setting_in s)) (whole (settings_in s ys) (subst (λ w. IsRow e w (settings_in s ys)) all (front_row f)))
  from_here (suc fuel) ys at f k = test (ltb at (length s)) refl (λ zs m. from_here fuel zs m)
    where
      Onward : Type 0
      Onward = (zs : List Entry) (m : ℕ) → Front zs m → length s - m ≤ fuel → RowSays e s (count_read (row_from e fuel zs s m))

      after_it : (x : Entry) (m : ℕ) → entry_at e s at ≡ got x m → (b : Bool) → holds (key_in s x) (settings_in s ys) ≡ b → (l : Bool) → leb limit (length ys) ≡ l → Onward →
          RowSays e s (count_read (pick b (refused (bare RECORD)) (pick l (refused (bare FULL)) (row_from e fuel (ys ++ (x ∷ [])) s m))))
      after_it x m a true i l j on = twice at (settings_in s ys) (setting_in s x) (front_row f) (next f a) (held (key_in s x) (settings_in s ys) i)
      after_it x m a false i true j on =
          full at (settings_in s ys) (setting_in s x) (front_row f) (next f a) (not_held (key_in s x) (settings_in s ys) i) (omega (arith, length-map ys (setting_in s), f.few, leb-true limit (length ys) j))
      after_it x m a false i false j on = on (ys ++ (x ∷ [])) m (front_more f a i (leb-false limit (length ys) j)) (omega (arith, forward s h (sp f a)))

      entry : (y : Answer Entry) → entry_at e s at ≡ y → at < length s → Onward → RowSays e s (count_read (after y λ x m. behind s ys x (row_from e fuel (ys ++ (x ∷ [])) s m)))
      entry (got x m) a lt on = after_it x m a (holds (key_in s x) (settings_in s ys)) refl (leb limit (length ys)) refl on
      entry (refused t) a lt on = of_entry at (settings_in s ys) lt (front_row f) (rw a at (entry_judged e s h at))

      test : (b : Bool) → ltb at (length s) ≡ b → Onward → RowSays e s (count_read (pick b (after (entry_at e s at) λ x m. behind s ys x (row_from e fuel (ys ++ (x ∷ [])) s m)) (got ys at)))
      test true t on = entry (entry_at e s at) refl (ltb-true at (length s) t) on
      test false t on =
          let all : take at s ≡ s = take_all at s (ltb-false at (length s) t) in
          subst (λ n. RowSays e s (Ok n)) (length-map ys (setting_in s)) (whole (settings_in s ys) (subst (λ w. IsRow e w (settings_in s ys)) all (front_row f)))

  -- of the function's own answer
  pub row_says : (r : (Result ℕ Refusal)) → r ≡ count_read (row_of e s) → RowSays e s r
  unfolding row_of
  row_says r promised = rw promised (from_here (length s) [] 0 (record { entries = none; distinct = tt; few = omega arith; within = omega arith }) (omega arith))

  -- ── and no other answer is said of the same bytes ──

  -- a row up to a place, as it is read: the entries there, and what is answered from the place on
  record Read (at : ℕ) (rs : List Setting) : Type 0 where
    entries : List Entry
    left : ℕ
    goes_on : row_of e s ≡ row_from e left entries s at
    readings : settings_in s entries ≡ rs
    enough : length s - at ≤ left

  front_read : (at : ℕ) (rs : List Setting) → at ≤ length s → IsRow e (take at s) rs → Read at rs
  unfolding row_of
  front_read at rs within r =
      let size : length (take at s) ≡ at = length-take-le at s within in
      let here : Stands s 0 at (take at s) = record { is = ap (λ n. take n s) size; till = omega (arith, size) } in
      let a = chain_on s r.entries here within [] (length s) (omega arith) r.distinct (omega (arith, r.few)) in
      record { entries = a.0; left = a.1; goes_on = a.2; readings = a.3; enough = a.4 }

  count_of : {at : ℕ} {rs : List Setting} (f : Read at rs) → length f.entries ≡ length rs
  count_of f = sym (length-map f.entries (setting_in s)) ∙ ap length f.readings

  -- one entry more
  step : (fuel : ℕ) (ys : List Entry) (at : ℕ) → at < length s → length s - at ≤ fuel → {y : Answer Entry} → entry_at e s at ≡ y → row_from e fuel ys s at ≡ after y λ x m. behind s ys x (row_from e (fuel - 1) (ys ++ (x ∷ [])) s m)
  unfolding row_from
  step zero ys at lt k f = absurd (omega arith)
  step (suc fuel) ys at lt k f = let less : suc fuel - 1 ≡ fuel = omega arith in rw (less, lt-ltb at (length s) lt, f)

  record NextRead (at : ℕ) (r : Setting) : Type 0 where
    entry : Entry
    end : ℕ
    read : entry_at e s at ≡ got entry end
    reading : key_in s entry ≡ r.key
    inside : at < length s

  next_read : {at : ℕ} {r : Setting} → Next e s at r → NextRead at r
  next_read {at} {r} n =
      let w = take n.size (drop at s) in
      let size : length w ≡ n.size = length-take-le n.size (drop at s) (omega (arith, n.within, length-drop at s)) in
      let here : Stands s at (at + n.size) w = record { is = ap (λ k. take k (drop at s)) size; till = omega (arith, size) } in
      let a = entry_complete e s at w (at + n.size) r n.within here n.is in
      record { entry = a.0; end = at + n.size; read = a.1; reading = ap (λ (x : Setting). x.key) a.2; inside = omega (arith, entry_long n.is, size, n.within) }

  pub row_one : {y : (Result ℕ Refusal)} → RowSays e s y → count_read (row_of e s) ≡ y
  unfolding after
  row_one (whole rs r) = let a = row_reads e s rs r in ap count_read a.1 ∙ ap Ok (sym (length-map a.0 (setting_in s)) ∙ ap length a.2)
  row_one (of_entry at rs {t} lt r says) =
      let f = front_read at rs (omega arith) r in
      let is = entry_one e at (drop at s) (Bytes-drop at s h) (entry_at e s at) (refused t) (entry_judged e s h at) says in
      ap count_read (f.goes_on ∙ step f.left f.entries at lt f.enough is)
  row_one (twice at rs r row n k) =
      let x = next_read n in
      let f = front_read at rs (omega (arith, n.within)) row in
      let old : holds (key_in s x.entry) (settings_in s f.entries) ≡ true = rw (x.reading, f.readings) (holding r.key rs k) in
      ap count_read {y = refused (bare RECORD)} (f.goes_on ∙ step f.left f.entries at x.inside f.enough x.read ∙ rw old)
  row_one (full at rs r row n k l) =
      let x = next_read n in
      let f = front_read at rs (omega (arith, n.within)) row in
      let new : holds (key_in s x.entry) (settings_in s f.entries) ≡ false = rw (x.reading, f.readings) (not_holding r.key rs k) in
      ap count_read {y = refused (bare FULL)} (f.goes_on ∙ step f.left f.entries at x.inside f.enough x.read ∙ rw (new, le-leb limit (length f.entries) (omega (arith, count_of f))))
