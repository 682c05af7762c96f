-- Storing and removing by copies. Up to the place where the key stands, or the end, the bytes are the words of the entries before it; from where that entry ends, the words of those after it.
-- Assumes nothing.
use Rattle.std.specs.Prelude.{Ok, Err}
use mathlib.Core.Path.{◌≡◌, refl, ap, sym, ◌∙◌, subst}
use mathlib.Core.Bool.{Bool, true, false}
use mathlib.Core.List.{List, [], ◌∷◌, ◌++◌, append_assoc}
use mathlib.Core.Option.{Option}
use Prim.Native.Nat.{ℕ, ◌+◌, ◌-◌, ◌≤◌, ◌<◌}
use native.Mathlib.Omega.{arith}
use borrow.Author.Tests.{lt-ltb, le-ltb}
use lib.Dec.{ltb, leb}
use lib.ListN.{length, take, drop, length-append, length-drop, length-map, take-append-drop, drop_of_length-le}
use lib.Seq.{take_all, take-length, take-add, drop-drop, length-take-le}
use Rattle.layout.specs.Answer.{Told, Answer, got, refused, pick, after, means, bare, field_at}
use Rattle.layout.specs.Bytes.{Bytes}
use Rattle.layout.specs.Grammar.{tidy}
use Rattle.layout.specs.Refusals.{ROOM}
use Rattle.layout.specs.Written.{says, no, Wrote, Put, roomed}
use Rattle.layout.proofs.laws.Make.{span_short}
use Rattle.layout.proofs.laws.Reading.{parted, picked, one_got}
use Rattle.layout.proofs.laws.Stored.{first, more}
use Rattle.layout.proofs.laws.Numbers.{zero_one}
use Rattle.layout.proofs.laws.Writing.{no_room, done, refusal}
use Rattle.wire.specs.Places.{filled_at}
use Rattle.wire.specs.Property.{bytes_of}
use Rattle.wire.proofs.laws.Located.{filled_end}
use Rattle.settings.specs.Refusals.{FULL}
use Rattle.settings.specs.Layout.{Key, Keyed, Setting, same_key, holds, limit}
use Rattle.settings.specs.Entry.{whole_at, is_tidy, tidy_at, entry_at, alone_in, key_slot, key_in, setting_in}
use Rattle.settings.specs.Row.{settings_in, row_of, count_read, Whole, first_by}
use Rattle.settings.specs.Search.{Chain, stop, link, place_of, Seeks, end_from, end_of, told_end}
use Rattle.settings.specs.Store.{put, without, entry_word, row_word, is_full, put_said, store_said, remove_said, settings_of, setting_of}
use Rattle.settings.specs.declared.entry.Edition.{Edition}
use Rattle.settings.specs.declared.entry.Entry.{Entry}
use Rattle.settings.proofs.Spelled.{Spelt, entry_sound, entry-word}
use Rattle.settings.proofs.Rows.{forward, end_spelt, key-word, held_place, new-place}
use Rattle.settings.proofs.Puts.{ahead_of, past, put_cut, without_cut}
use Rattle.settings.proofs.Accepted.{Known, known, First, at_place, nowhere, first_place}

-- ── three copies ──

module _ (row entry : List ℕ) (from till : ℕ) (f : from ≤ till) (g : till ≤ length row) where
  abbrev pub replaced_word : List ℕ
  replaced_word = take from row ++ entry ++ drop till row

  replaced_size : length replaced_word ≡ from + length entry + (length row - till)
  replaced_size = omega (arith, length-append (take from row ++ entry) (drop till row), length-append (take from row) entry, length-take-le from row (omega arith), length-drop till row)

  pub replaced_short : {out : List ℕ} {t : Told} → length out < from + length entry + (length row - till) → t ≡ bare ROOM → Wrote (says replaced_word) out (refused t) out
  replaced_short k e = no_room refl (omega (arith, replaced_size)) e

  pub replaced_done : {out a b new : List ℕ} {i j n : ℕ} → from + length entry + (length row - till) ≤ length out → Put out 0 (roomed out 0 (take from row)) a i → Put a i (roomed a i (take (length entry) entry)) b j
      → Put b j (roomed b j (take (length row - till) (drop till row))) new n → Wrote (says replaced_word) out (got tt n) new
  replaced_done {out} {a} {b} k p q r =
      let front : length (take from row) ≡ from = length-take-le from row (omega arith) in
      let all : take (length row - till) (drop till row) ≡ drop till row = take_all (length row - till) (drop till row) (omega (arith, length-drop till row)) in
      done refl (omega (arith, replaced_size))
      (more
      (more
      (first (omega (arith, front)) p)
      entry (omega (arith, front)) (rw (take-length entry) at q))
      (drop till row) (omega (arith, front, length-append (take from row) entry, length-drop till row)) (rw all at r))

-- ── the row's words ──

module _ (e : Edition) (s : List ℕ) (h : Bytes s) where
  -- an entry's bytes
  spelt_word : {at n : ℕ} {x : Entry} → Spelt e s at x n → take (n - at) (drop at s) ≡ entry_word (setting_in s x)
  spelt_word {at} {n} {x} sp =
      let size : n - at ≡ length sp.word = omega (arith, sp.there.till) in
      rw size sp.there.is ∙ entry-word sp.is

  -- the bytes from a place on, cut behind the entry there
  spelt_cut : {at n : ℕ} {x : Entry} → Spelt e s at x n → drop at s ≡ entry_word (setting_in s x) ++ drop n s
  spelt_cut {at} {n} {x} sp =
      let far : at + (n - at) ≡ n = omega (arith, sp.there.till) in
      sym (take-append-drop (n - at) (drop at s)) ∙ ap (λ w. w ++ drop (n - at) (drop at s)) (spelt_word sp) ∙ ap (λ w. entry_word (setting_in s x) ++ w) (drop-drop (n - at) at s ∙ ap (λ i. drop i s) far)

  pub chain_word : {at : ℕ} {xs : List Entry} → Chain e s at xs (length s) → drop at s ≡ row_word (settings_in s xs)
  unfolding row_word
  chain_word stop = drop_of_length-le s {i = length s} (omega arith)
  chain_word {at} (link {m} {x} f c) = spelt_cut (entry_sound e s at x m h f) ∙ ap (λ w. entry_word (setting_in s x) ++ w) (chain_word c)

  -- no entry starts at the end
  end_none : end_of e s (length s) ≡ length s
  unfolding entry_at whole_at field_at after
  end_none = rw (span_short (length s) 4 s (length s) (omega arith))

  -- nor does a length stand there
  told_none : told_end s (length s) ≡ length s
  unfolding field_at after
  told_none = rw (span_short (length s) 4 s (length s) (omega arith))

  -- the bytes before the place where a key stands, and those behind the entry there
  module _ (k : Key) where
    place_ahead : {at : ℕ} {xs : List Entry} → Chain e s at xs (length s) → at ≤ place_of s k (length s) xs
    unfolding place_of
    place_ahead stop = omega arith
    place_ahead {at} (link {m} {x} {xs} f c) = go (entry_sound e s at x m h f) (place_ahead c) (same_key k (key_in s x))
      where
        go : Spelt e s at x m → m ≤ place_of s k (length s) xs → (b : Bool) → at ≤ pick b x.start (place_of s k (length s) xs)
        go sp l true = omega (arith, sp.read.start)
        go sp l false = omega (arith, forward s h sp)

    ahead_word : {at : ℕ} {xs : List Entry} → Chain e s at xs (length s) → take (place_of s k (length s) xs - at) (drop at s) ≡ row_word (ahead_of k (settings_in s xs))
    unfolding place_of ahead_of row_word
    ahead_word stop = let none : length s - length s ≡ 0 = omega arith in rw none
    ahead_word {at} (link {m} {x} {xs} f c) = go (entry_sound e s at x m h f) (place_ahead c) (ahead_word c) (same_key k (key_in s x))
      where
        later : ℕ
        later = place_of s k (length s) xs

        go : Spelt e s at x m → m ≤ later → take (later - m) (drop m s) ≡ row_word (ahead_of k (settings_in s xs)) → (b : Bool)
            → take (pick b x.start later - at) (drop at s) ≡ row_word (pick b [] (setting_in s x ∷ ahead_of k (settings_in s xs)))
        go sp l on true = let none : x.start - at ≡ 0 = omega (arith, sp.read.start) in rw none
        go sp l on false =
            let far : at + (m - at) ≡ m = omega (arith, forward s h sp) in
            let sum : later - at ≡ (m - at) + (later - m) = omega (arith, forward s h sp) in
            let on-from : drop (m - at) (drop at s) ≡ drop m s = drop-drop (m - at) at s ∙ ap (λ n. drop n s) far in
            ap (λ n. take n (drop at s)) sum ∙ take-add (m - at) (later - m) (drop at s) ∙ ap (λ w. w ++ take (later - m) (drop (m - at) (drop at s))) (spelt_word sp)
            ∙ ap (λ w. entry_word (setting_in s x) ++ take (later - m) w) on-from ∙ ap (λ w. entry_word (setting_in s x) ++ w) on

    past_word : {at : ℕ} {xs : List Entry} → Chain e s at xs (length s) → drop (told_end s (place_of s k (length s) xs)) s ≡ row_word (past k (settings_in s xs))
    unfolding place_of past row_word
    past_word stop = ap (λ i. drop i s) told_none ∙ drop_of_length-le s {i = length s} (omega arith)
    past_word {at} (link {m} {x} {xs} f c) = go (entry_sound e s at x m h f) (chain_word c) (past_word c) (same_key k (key_in s x))
      where
        go : Spelt e s at x m → drop m s ≡ row_word (settings_in s xs) → drop (told_end s (place_of s k (length s) xs)) s ≡ row_word (past k (settings_in s xs)) → (b : Bool)
            → drop (told_end s (pick b x.start (place_of s k (length s) xs))) s ≡ row_word (pick b (settings_in s xs) (past k (settings_in s xs)))
        go sp rest on true = let end : told_end s x.start ≡ m = ap (told_end s) sp.read.start ∙ end_spelt sp in rw end rest
        go sp rest on false = on

pub row_append : (a b : List Setting) → row_word (a ++ b) ≡ row_word a ++ row_word b
unfolding row_word
row_append [] b = refl
row_append (x ∷ a) b = ap (λ w. entry_word x ++ w) (row_append a b) ∙ sym (append_assoc (entry_word x) (row_word a) (row_word b))

-- ── where a key was sought in a row that was checked ──

module _ {e : Edition} {s : List ℕ} {count : ℕ} (h : Bytes s) (row : Known e s count) (k : Key) {p : ℕ} (place : p ≡ place_of s k (length s) row.entries) where
  -- where the entry with the key ends
  pub place_end : (p ≤ told_end s p) × (told_end s p ≤ length s)
  place_end = go (first_by (key_in s) k row.entries) (first_place e s h row.chain k)
    where
      go : (o : Option Entry) → First e s h k row.entries (length s) o → (p ≤ told_end s p) × (told_end s p ≤ length s)
      go o (at_place {x = y} a b m i j) =
          let is : p ≡ y.start = place ∙ b in
          let sp = entry_sound e s y.start y m h i in
          let end : told_end s p ≡ m = ap (told_end s) is ∙ end_spelt sp in
          (omega (arith, is, end, forward s h sp), omega (arith, end, sp.read.within))
      go o (nowhere a) =
          let is : p ≡ length s = place ∙ a in
          let end : told_end s p ≡ length s = ap (told_end s) is ∙ told_none e s h in
          (omega (arith, is, end), omega (arith, end))

  -- it ends where its reader says
  pub end_same : end_of e s p ≡ told_end s p
  end_same = go (first_by (key_in s) k row.entries) (first_place e s h row.chain k)
    where
      go : (o : Option Entry) → First e s h k row.entries (length s) o → end_of e s p ≡ told_end s p
      go o (at_place {x = y} a b m i j) =
          let is : p ≡ y.start = place ∙ b in
          let sp = entry_sound e s y.start y m h i in
          let read : end_of e s y.start ≡ m = ap (end_from y.start) i in
          ap (end_of e s) is ∙ read ∙ sym (ap (told_end s) is ∙ end_spelt sp)
      go o (nowhere a) =
          let is : p ≡ length s = place ∙ a in
          ap (end_of e s) is ∙ end_none e s h ∙ sym (ap (told_end s) is ∙ told_none e s h)

  -- the row with something else there
  pub place-word : (mid : List ℕ) {till : ℕ} → till ≡ told_end s p → take p s ++ mid ++ drop till s ≡ row_word (ahead_of k (settings_in s row.entries)) ++ (mid ++ row_word (past k (settings_in s row.entries)))
  place-word mid {till} j =
      let front : place_of s k (length s) row.entries - 0 ≡ p = omega (arith, place) in
      let ahead-is : take p s ≡ row_word (ahead_of k (settings_in s row.entries)) = ap (λ n. take n s) (sym front) ∙ ahead_word e s h k row.chain in
      let past_is : drop till s ≡ row_word (past k (settings_in s row.entries)) = ap (λ n. drop n s) (j ∙ ap (told_end s) place) ∙ past_word e s h k row.chain in
      rw (ahead-is, past_is) (append_assoc (row_word (ahead_of k (settings_in s row.entries))) mid (row_word (past k (settings_in s row.entries))))

  -- with nothing there: a removal
  pub removed_done : {mid : List ℕ} → mid ≡ [] → {till : ℕ} → till ≡ told_end s p → {out new : List ℕ} {a : Answer (Unit {0})} → Wrote (says (take p s ++ mid ++ drop till s)) out a new → Wrote (remove_said (settings_of e s) k) out a new
  unfolding remove_said means
  removed_done {mid} i {till} j {out} {new} {a} wrote =
      let rs = settings_in s row.entries in
      let word : take p s ++ mid ++ drop till s ≡ row_word (without k rs) = place-word mid j ∙ ap (λ m. row_word (ahead_of k rs) ++ (m ++ row_word (past k rs))) i ∙ sym (row_append (ahead_of k rs) (past k rs)) ∙ ap row_word (sym (without_cut k rs)) in
      let said : remove_said (settings_of e s) k ≡ says (row_word (without k rs)) = rw row.is in
      subst (λ m. Wrote m out a new) (ap says word ∙ sym said) wrote

-- ── an entry alone in its bytes ──

module _ (e : Edition) (w : List ℕ) (h : Bytes w) (x : Entry) (n : ℕ) (f : alone_in e w ≡ got x n) where
  alone_entry : (entry_at e w 0 ≡ got x n) × (n ≡ length w)
  unfolding alone_in entry_at tidy_at after
  alone_entry =
      let a = parted (whole_at e w 0) _ f in
      let b = parted (filled_at w a.1) _ a.3 in
      let t = picked (is_tidy w a.0) (got a.0 a.1) _ b.3 in
      let same = (one_got t.1).1 in
      let is : entry_at e w 0 ≡ got x n = rw a.2 b.3 in
      let sp = entry_sound e w 0 x n h is in
      (is, omega (arith, filled_end w a.1 b.1 b.2, same, sp.read.within))

  pub alone_spelt : Spelt e w 0 x n
  alone_spelt = entry_sound e w 0 x n h alone_entry.0

  pub alone_word : w ≡ entry_word (setting_in w x)
  alone_word =
      let all : n - 0 ≡ length w = omega (arith, alone_entry.1) in
      sym (ap (λ i. take i w) all ∙ take-length w) ∙ spelt_word e w h alone_spelt

-- ── what a store has to say, and the copies that say it ──

-- the row was checked, the entry x is what the bytes w are, and its key was sought
pub record Sought (e : Edition) (s w : List ℕ) (count : ℕ) (x : Entry) (p : ℕ) : Type 0 where
  pub bytes : Bytes s
  pub entry-bytes : Bytes w
  pub checked : Whole e s count
  pub end : ℕ
  pub alone : alone_in e w ≡ got x end
  pub key : List ℕ
  pub key_is : key ≡ bytes_of w (key_slot x)
  pub seeks : Seeks s (length s) key p

module _ {e : Edition} {s w : List ℕ} {count : ℕ} {x : Entry} {p : ℕ} (k : Sought e s w count x p) where
  row : Known e s count
  row = known e s k.bytes count k.checked

  said : store_said (settings_of e s) (setting_of e w) ≡ put_said (setting_in w x) (settings_in s row.entries)
  unfolding store_said means
  said = rw (row.is, k.alone)

  place : p ≡ place_of s (key_in w x) (length s) row.entries
  place = (k.seeks (key_in w x) (subst (λ v. Keyed tidy v (key_in w x)) (sym k.key_is) (key-word (alone_spelt e w k.entry-bytes x k.end k.alone)))).places e row.entries row.chain

  full_is : pick (ltb p (length s)) false (leb limit count) ≡ is_full (key_in w x) (settings_in s row.entries)
  unfolding is_full
  full_is = go (holds (key_in w x) (settings_in s row.entries)) refl
    where
      size : length (settings_in s row.entries) ≡ count
      size = length-map row.entries (setting_in s) ∙ row.size

      go : (b : Bool) → holds (key_in w x) (settings_in s row.entries) ≡ b → pick (ltb p (length s)) false (leb limit count) ≡ pick b false (leb limit (length (settings_in s row.entries)))
      go true i = rw (lt-ltb p (length s) (omega (arith, place, held_place s k.bytes row.chain (key_in w x) i)))
      go false i = rw (le-ltb p (length s) (omega (arith, place, new-place s k.bytes row.chain (key_in w x) i)), size)

  pub stored_full : {b : Bool} → b ≡ pick (ltb p (length s)) false (leb limit count) → b ≡ true → {out : List ℕ} {t : Told} → t ≡ bare FULL → Wrote (store_said (settings_of e s) (setting_of e w)) out (refused t) out
  unfolding put_said
  stored_full g i {out} {t} j = refusal (said ∙ rw (sym full_is ∙ sym g ∙ i) (ap no (sym j)))

  pub sought_end : (p ≤ told_end s p) × (told_end s p ≤ length s)
  sought_end = place_end k.bytes row (key_in w x) place

  pub sought_same : end_of e s p ≡ told_end s p
  sought_same = end_same k.bytes row (key_in w x) place

  pub stored_done : {b : Bool} → b ≡ pick (ltb p (length s)) false (leb limit count) → b ≡ false → {till : ℕ} → till ≡ told_end s p → {out new : List ℕ} {a : Answer (Unit {0})}
      → Wrote (says (take p s ++ w ++ drop till s)) out a new → Wrote (store_said (settings_of e s) (setting_of e w)) out a new
  unfolding put_said row_word
  stored_done g i {till} j {out} {new} {a} wrote =
      let r = setting_in w x in
      let rs = settings_in s row.entries in
      let word : take p s ++ w ++ drop till s ≡ row_word (put r rs) =
      place-word k.bytes row (key_in w x) place w j ∙ ap (λ v. row_word (ahead_of r.key rs) ++ (v ++ row_word (past r.key rs))) (alone_word e w k.entry-bytes x k.end k.alone) ∙ sym (row_append (ahead_of r.key rs) (r ∷ past r.key rs)) ∙ ap row_word (sym (put_cut r rs)) in
      let all : store_said (settings_of e s) (setting_of e w) ≡ says (take p s ++ w ++ drop till s) = said ∙ rw (sym full_is ∙ sym g ∙ i) (ap says (sym word)) in
      subst (λ m. Wrote m out a new) (sym all) wrote

-- ── refused ──

pub stored_row_refused : (e : Edition) (s w : List ℕ) {t : Told} → count_read (row_of e s) ≡ Err t → {out : List ℕ} → Wrote (store_said (settings_of e s) (setting_of e w)) out (refused t) out
unfolding store_said means
stored_row_refused e s w {t} f {out} = go (row_of e s) f
  where
    go : (y : Answer (List Entry)) → count_read y ≡ Err t → Wrote (store_said (means (settings_in s) y) (setting_of e w)) out (refused t) out
    go (got xs n) f = zero_one (cc)
    go (refused u) f = refusal (cc)

pub stored_entry_refused : (e : Edition) (s w : List ℕ) (count : ℕ) → Whole e s count → {t : Told} → refused t ≡ alone_in e w → {out : List ℕ} → Wrote (store_said (settings_of e s) (setting_of e w)) out (refused t) out
unfolding store_said means
stored_entry_refused e s w count g {t} f {out} = go (row_of e s) g
  where
    go : (y : Answer (List Entry)) → count_read y ≡ Ok count → Wrote (store_said (means (settings_in s) y) (means (setting_in w) (alone_in e w))) out (refused t) out
    go (got xs n) g = refusal (rw (← f))
    go (refused u) g = zero_one (cc)

pub removed_refused : (e : Edition) (s : List ℕ) (k : Key) {t : Told} → count_read (row_of e s) ≡ Err t → {out : List ℕ} → Wrote (remove_said (settings_of e s) k) out (refused t) out
unfolding remove_said means
removed_refused e s k {t} f {out} = go (row_of e s) f
  where
    go : (y : Answer (List Entry)) → count_read y ≡ Err t → Wrote (remove_said (means (settings_in s) y) k) out (refused t) out
    go (got xs n) f = zero_one (cc)
    go (refused u) f = refusal (cc)
