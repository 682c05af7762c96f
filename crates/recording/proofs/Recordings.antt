-- Laws of the row of records, by their grammar: it is accepted from end to end where the bytes are a recording, and nowhere else; it is refused as its first refused record is; and the row
-- that the listing goes through is the same.
-- Assumes nothing.
use mathlib.Core.Path.{◌≡◌, refl, ap, sym, subst, ◌∙◌}
use mathlib.Core.Bool.{Bool, true, false}
use mathlib.Core.List.{List, [], ◌∷◌, ◌++◌, map, append-nil}
use Prim.Native.Nat.{ℕ, zero, suc, ◌+◌, ◌-◌, ◌≤◌, ◌<◌}
use native.Mathlib.Omega.{arith}
use borrow.Author.Tests.{ltb-true, ltb-false}
use lib.Dec.{ltb}
use lib.ListN.{length, take, drop, length-drop, take-append-drop}
use lib.Seq.{drop-append_seam, drop-drop, length-take-le}
use Rattle.layout.specs.Answer.{Told, Answer, got, refused, pick, after, means}
use Rattle.layout.specs.Bytes.{Bytes}
use Rattle.layout.specs.Format.{Stands}
use Rattle.layout.specs.Grammar.{loose}
use Rattle.layout.specs.Placed as placed
use Rattle.layout.proofs.laws.Accepted.{Accepts, accepted, accepts_after, accepts_both, accepts_means, accepts_pick}
use Rattle.layout.proofs.laws.Numbers.{Bytes-drop, zero_one}
use Rattle.layout.proofs.laws.Reading.{means_means, means_same, refused_meant, unmeant}
use Rattle.layout.proofs.laws.Words.{front, join, no_bytes, part_there, rest_of, self, split, stands_none}
use Rattle.recording.specs.Codecs.{entry_in, record_parts}
use Rattle.recording.specs.Content as content
use Rattle.recording.specs.Copied.{move_told, move}
use Rattle.recording.specs.Layout.{Entry, Record, Recording, none, one_more}
use Rattle.recording.specs.Older as older
use Rattle.recording.specs.Older.{AllRead}
use Rattle.recording.specs.Record.{record_at, record_of}
use Rattle.recording.specs.Recording.{Follows, no_more, and_then, Stops}
use Rattle.recording.specs.Refused.{RecordSays}
use Rattle.recording.specs.Row.{followed, found, records_in, row_from, row_of}
use Rattle.recording.proofs.Judged.{record_judged, record_one}
use Rattle.recording.proofs.Moved.{shifted, record_moved}
use Rattle.recording.proofs.Placed.{rest, row_none, row_got, row_refused, row_ends}
use Rattle.recording.proofs.Records.{record-word, record_format, record-parts}
use Rattle.recording.proofs.laws.Rowed.{Placed, record_placed, records_none, records_step}

module _ (s : List ℕ) where
  -- ── records that stand are gone through ──

  record_there : {w : List ℕ} {at n : ℕ} {x : Entry} → Stands s at n w → Record loose w x → (y : content.Record) × (record_at s at ≡ got y n) × (entry_in s y ≡ x)
  record_there {at = at} st g = unmeant (entry_in s) (record_at s at) (record_format.complete st g)

  through : {v : List ℕ} {es : List Entry} → Recording loose v es → {at n : ℕ} → Stands s at n v →
      (xs : List content.Record) × (rest s at ≡ means (λ zs. xs ++ zs) (rest s n)) × (map (entry_in s) xs ≡ es)
  through none {at} {n} st = let same : n ≡ at = omega (arith, st.till) in ([], sym (ap (λ m. means (λ zs. zs) (rest s m)) same ∙ means_same (rest s at)), refl)
  through (one_more {u} {v} g r) {at} {n} st =
      let p = split u v st in
      let (y, read, is) = record_there p.0 g in
      let placed = accepted (Placed s at) (record_placed s at) (sym read) in
      let (ys, row, are) = through r p.1 in
      let first : rest s at ≡ means (λ zs. y ∷ zs) (rest s (at + length u)) = row_got s at (omega (arith, placed.till, placed.within)) (sym read) in
      (y ∷ ys, first ∙ ap (means (λ zs. y ∷ zs)) row ∙ means_means (λ zs. y ∷ zs) (λ zs. ys ++ zs) (rest s n), cc (is, are))

  -- from end to end
  pub recording_complete : {es : List Entry} → Recording loose s es → (xs : List content.Record) × (row_of s ≡ got xs (length s)) × (map (entry_in s) xs ≡ es)
  unfolding row_of means
  recording_complete r =
      let (xs, row, are) = through r (self s) in
      (xs, row ∙ ap (means (λ zs. xs ++ zs)) (row_none s (length s) (omega arith)) ∙ ap (λ ys. got ys (length s)) (append-nil xs), are)

  -- ── a record at a place, by its own bytes ──

  record_here : {at : ℕ} → at ≤ length s → record_at s at ≡ shifted (move at) at (record_of (drop at s))
  record_here {at} h =
      let size : length (take at s) ≡ at = length-take-le at s h in
      let place : at ≡ length (take at s) + 0 = omega (arith, size) in
      ap (λ v. record_at v at) (sym (take-append-drop at s)) ∙ ap (record_at (take at s ++ drop at s)) place ∙ record_moved (take at s) (drop at s) 0 ∙ ap (λ k. shifted (move k) k (record_of (drop at s))) size

  own_refusal : {at : ℕ} {t : Told} → at ≤ length s → record_at s at ≡ refused t → (own : Told) × RecordSays (drop at s) (refused own) × (t ≡ move_told at own)
  own_refusal {at} {t} h e = go (record_of (drop at s)) (record_judged (drop at s)) (sym (record_here h) ∙ e)
    where
      go : (x : Answer content.Record) → RecordSays (drop at s) x → shifted (move at) at x ≡ refused t → (own : Told) × RecordSays (drop at s) (refused own) × (t ≡ move_told at own)
      go (got x n) p f = zero_one (cc)
      go (refused own) p f = (own, p, cc)

  -- up to a record that is refused
  pub stops_row : {t : Told} → Stops s t → row_of s ≡ refused t
  unfolding row_of means
  stops_row {t} p =
      let k = p.place in
      let within : k ≤ length s = omega (arith, p.more) in
      let own : record_of (drop k s) ≡ refused p.own = record_one (drop k s) (record_of (drop k s)) (refused p.own) (record_judged (drop k s)) p.refusal in
      let refusal : record_at s k ≡ refused t = record_here within ∙ ap (shifted (move k) k) own ∙ ap refused (sym p.told) in
      let (xs, row, are) = through p.sound (part_there s 0 k (omega (arith, p.more))) in
      let place : 0 + k ≡ k = omega arith in
      row ∙ ap (λ m. means (λ zs. xs ++ zs) (rest s m)) place ∙ ap (means (λ zs. xs ++ zs)) (row_refused s k p.more (sym refusal))

  -- ── what is read is a row of records ──

  none_left : (at : ℕ) → length s ≤ at → drop at s ≡ []
  none_left at h = no_bytes (drop at s) (omega (arith, length-drop at s))

  module _ (h : Bytes s) where
    row_word : (f at : ℕ) → at ≤ length s → length s - at ≤ f → Accepts (λ xs n. Recording loose (drop at s) (map (entry_in s) xs)) (row_from f s at)
    unfolding row_from
    row_word zero at k fuel = rw (none_left at (omega arith)) none
    row_word (suc f) at k fuel =
        accepts_pick _ (ltb at (length s)) _ _
        (λ _.
        accepts_after _ _ (record_at s at) _ (accepts_both _ _ (record_at s at) (record-word s h at) (record_placed s at)) λ x n p.
        accepts_means _ _ _ (row_from f s n) (row_word f n p.1.within (omega (arith, p.1.till))) λ xs m q. joined x n p.0 xs q)
        (λ e. rw (none_left at (ltb-false at (length s) e)) none)
      where
        joined : (x : content.Record) (n : ℕ) → (w : List ℕ) × Stands s at n w × Record loose w (entry_in s x) → (xs : List content.Record) → Recording loose (drop n s) (map (entry_in s) xs) →
            Recording loose (drop at s) (entry_in s x ∷ map (entry_in s) xs)
        joined x n (w, st, g) xs q =
            let behind : drop n s ≡ drop (length w) (drop at s) = ap (λ m. drop m s) st.till ∙ sym (drop-drop (length w) at s) in
            subst (λ v. Recording loose v (entry_in s x ∷ map (entry_in s) xs)) (ap (λ v. w ++ v) behind ∙ rest_of st) (one_more g q)

    pub recording_sound : {xs : List content.Record} {n : ℕ} → row_of s ≡ got xs n → Recording loose s (map (entry_in s) xs)
    unfolding row_of
    recording_sound e = accepted _ (row_word (length s) 0 (omega arith) (omega arith)) (sym e)

    -- the records before the first that is refused
    record Before (at : ℕ) (t : Told) : Type 0 where
      place : ℕ
      entries : List Entry
      before : List ℕ
      stands : Stands s at place before
      sound : Recording loose before entries
      more : place < length s
      refusal : record_at s place ≡ refused t

    row_before : (f at : ℕ) (t : Told) → row_from f s at ≡ refused t → Before at t
    unfolding row_from after
    row_before zero at t e = zero_one (cc)
    row_before (suc f) at t e = go (ltb at (length s)) refl (record_at s at) refl e (λ n. row_before f n t)
      where
        go : (b : Bool) → ltb at (length s) ≡ b → (y : Answer content.Record) → record_at s at ≡ y → pick b (after y λ x n. means (λ xs. x ∷ xs) (row_from f s n)) (got [] at) ≡ refused t →
            ((n : ℕ) → row_from f s n ≡ refused t → Before n t) → Before at t
        go true more (got x n) is e on =
            let p = on n (refused_meant (λ xs. x ∷ xs) (row_from f s n) e) in
            let (w, st, g) = accepted _ (record-word s h at) (sym is) in
            record { place = p.place; entries = entry_in s x ∷ p.entries; before = w ++ p.before; stands = join st p.stands; sound = one_more g p.sound; more = p.more; refusal = p.refusal }
        go true more (refused u) is e on = let same : u ≡ t = cc in record { place = at; entries = []; before = []; stands = stands_none; sound = none; more = ltb-true at (length s) more; refusal = is ∙ ap refused same }
        go false more y is e on = zero_one (cc)

    pub row_stops : {t : Told} → row_of s ≡ refused t → Stops s t
    unfolding row_of
    row_stops {t} e =
        let p = row_before (length s) 0 t e in
        let size : p.place ≡ length p.before = omega (arith, p.stands.till) in
        let is : take p.place s ≡ p.before = ap (λ n. take n s) size ∙ p.stands.is in
        let within : p.place ≤ length s = omega (arith, p.more) in
        let (own, refusal, told) = own_refusal within p.refusal in
        record { place = p.place; entries = p.entries; sound = rw is p.sound; more = p.more; own = own; refusal = refusal; told = told }

  -- each record begins where the one before it ends
  row_follows : (f at : ℕ) → Accepts (λ xs n. Follows s at xs n) (row_from f s at)
  unfolding row_from after
  row_follows zero at = no_more
  row_follows (suc f) at = accepts_pick _ (ltb at (length s)) _ _ (λ _. go (record_at s at) refl (record-parts s at) (row_follows f)) (λ _. no_more)
    where
      go : (y : Answer content.Record) → record_at s at ≡ y → Accepts (λ x n. (at < n) × placed.Inside at n (record_parts x)) y → ((n : ℕ) → Accepts (λ xs m. Follows s n xs m) (row_from f s n)) →
          Accepts (λ xs n. Follows s at xs n) (after y λ x n. means (λ xs. x ∷ xs) (row_from f s n))
      go (got x n) is p on = accepts_means _ _ _ (row_from f s n) (on n) λ xs m q. and_then is p.0 p.1 q
      go (refused t) is p on = tt

  pub follows : {xs : List content.Record} {n : ℕ} → row_of s ≡ got xs n → Follows s 0 xs n
  unfolding row_of
  follows e = accepted _ (row_follows (length s) 0) (sym e)

  pub row_end : {xs : List content.Record} {n : ℕ} → row_of s ≡ got xs n → n ≡ length s
  unfolding row_of
  row_end e = accepted _ (row_ends (length s) s 0 (omega arith) (omega arith)) (sym e)

-- ── the row that the listing goes through ──

pub read_all : {s : List ℕ} {es : List Entry} → Recording loose s es → AllRead (records_in s)
read_all none = subst AllRead (sym (records_none [] (omega arith))) older.none
read_all (one_more {u} {v} g r) =
    let st : Stands (u ++ v) 0 (length u) u = front u v refl (omega arith) in
    let (y, read, is) = record_there (u ++ v) st g in
    let placed = accepted (Placed (u ++ v) 0) (record_placed (u ++ v) 0) (sym read) in
    let behind : drop (length u) (u ++ v) ≡ v = drop-append_seam u v in
    let step : records_in (u ++ v) ≡ got y (length u) ∷ records_in v = records_step (u ++ v) (omega (arith, placed.till, placed.within)) ∙ ap (λ z. followed z (λ n. records_in (drop n (u ++ v)))) read ∙ ap (λ w. got y (length u) ∷ records_in w) behind in
    subst AllRead (sym step) (older.one_more (read_all r))

pub all_read : (f : ℕ) (s : List ℕ) → length s ≤ f → Bytes s → AllRead (found f s) → (es : List Entry) × Recording loose s es
unfolding found
all_read zero s h b all = ([], rw (no_bytes s h) none)
all_read (suc f) s h b all = go (ltb 0 (length s)) refl (record_of s) refl all (all_read f)
  where
    go : (more : Bool) → ltb 0 (length s) ≡ more → (x : Answer content.Record) → record_of s ≡ x → AllRead (pick more (followed x (λ n. found f (drop n s))) []) →
        ((v : List ℕ) → length v ≤ f → Bytes v → AllRead (found f v) → (es : List Entry) × Recording loose v es) → (es : List Entry) × Recording loose s es
    go false e x is all shorter = ([], rw (no_bytes s (ltb-false 0 (length s) e)) none)
    go true e (got x n) is (older.one_more all) shorter =
        let (w, st, g) = accepted _ (record-word s b 0) (sym is) in
        let placed = accepted (Placed s 0) (record_placed s 0) (sym is) in
        let (es, r) = shorter (drop n s) (omega (arith, length-drop n s, placed.till)) (Bytes-drop n s b) all in
        let size : n ≡ length w = omega (arith, st.till) in
        let behind : drop n s ≡ drop (length w) s = ap (λ m. drop m s) size in
        (entry_in s x ∷ es, subst (λ v. Recording loose v (entry_in s x ∷ es)) (ap (λ v. w ++ v) behind ∙ rest_of st) (one_more {xs = es} g r))
    go true e (refused _) is all shorter = elim all [ ]
