-- The payloads of camera calls against the grammar: accepted exactly where the whole payload is a word, 3 exactly where a proper prefix is.
-- Assumes nothing.
use Rattle.wire.specs.Read.{Read, says_read}
use Rattle.wire.specs.declared.Part.{Part}
use Rattle.wire.specs.declared.storage.StorageInfo.{StorageInfo}
use Rattle.std.proofs.Common.{◌≡◌, ℕ, ◌≤◌, Bool, true, false, ltb, ◌⊎◌, List, [], length, sym, refl, ap, ◌∙◌, subst, inl, inr, arith, take_all, ltb-false, ltb-true, le-ltb, lt-ltb}
use Rattle.layout.specs.Answer.{Told, Answer, got, refused, Reader, pick, after, end_at, bad_text, bare}
use Rattle.layout.specs.Bytes.{Bytes}
use Rattle.layout.specs.Faithful.{Prefix, Exact}
use Rattle.layout.specs.Codec.{Codec}
use Rattle.layout.specs.Fault.{Fault, Clean, first, Begins, Ends, BadText, Refuses, Faulted}
use Rattle.layout.specs.Format.{Format}
use Rattle.layout.specs.Grammar.{Grammar}
use Rattle.layout.specs.Placed.{Placed}
use Rattle.layout.specs.Refusals.{TRAIL}
use Rattle.layout.specs.Spot.{Spot, Here, Points, Spotted}
use Rattle.layout.proofs.laws.Decided.{refuses_exactly}
use Rattle.layout.proofs.laws.Final.{number_faults, cells_faults, count_faults, same_faults, all_clean, one_faults}
use Rattle.layout.proofs.laws.Make.{number_format}
use Rattle.layout.proofs.laws.Meets.{reads_exactly, filled}
use Rattle.layout.proofs.laws.Numbers.{zero_one}
use Rattle.layout.proofs.laws.Reading.{means_same}
use Rattle.layout.proofs.laws.Spotted.{field_owned, one_spotted, number_spotted, points_exactly}
use Rattle.wire.specs.Codecs.{array}
use Rattle.wire.specs.Faults.{RowFault}
use Rattle.wire.specs.Layout.{storage, Row}
use Rattle.wire.specs.Places.{num_at, array_at, items_in, filled_at, row_at, row_in}
use Rattle.wire.specs.Spots.{RowSpot}
use Rattle.wire.specs.Storage.{says_storage}
use Rattle.wire.proofs.laws.Formats.{array_format, row_format}
use Rattle.wire.proofs.laws.Located.{num_lies, arrays, rows}
use Rattle.wire.proofs.laws.Grounds.{row_spot_at, row_blame}
use Rattle.session.specs.Fills.{Handles, ObjectCount, Shorter, Fills}
use Rattle.session.specs.Payloads.{filling, handles_payload, storage_payload, count_payload}

-- ── any layout that is read exactly, and refused with 1 or 2 of its spot ──

-- a number that is neither 1 nor 2
not_3 : {L : Type 0} {x : Answer L} → Ends x ⊎ BadText x → x ≡ refused (bare TRAIL) → ⊥
unfolding end_at bad_text bare
not_3 (inl (p, f)) e = let z = sym f ∙ e in let same : end_at p ≡ bare TRAIL = cc in omega (arith, ap (λ (t : Told). t.no) same)
not_3 (inr (p, f)) e = let z = sym f ∙ e in let same : bad_text p ≡ bare TRAIL = cc in omega (arith, ap (λ (t : Told). t.no) same)

module _ {R L : Type 0} {G : Grammar R} {B : Fault} {P : Spot} {mean : L → R} (read : Reader L) (s : List ℕ) (exact : Exact G mean s (read s 0)) (blame : Refuses G B s (read s 0)) (spot : Points B P s 0 (read s 0)) where
  on_got : {l : L} {n : ℕ} → read s 0 ≡ got l n → filling read s ≡ pick (ltb n (length s)) (refused (bare TRAIL)) (got l n)
  unfolding filling filled_at after
  on_got {l} {n} e = rw e (go (ltb n (length s)))
    where
      go : (b : Bool) → after (pick b (refused (bare TRAIL)) (got (tt {0}) n)) (λ _ end. got l end) ≡ pick b (refused (bare TRAIL)) (got l n)
      go true = refl
      go false = refl

  on_refused : {t : Told} → read s 0 ≡ refused t → filling read s ≡ refused t
  unfolding filling after
  on_refused e = rw e

  -- a word that is read ends within the payload
  word : {l : L} {n : ℕ} → read s 0 ≡ got l n → Prefix G s (mean l) n
  word {l} {n} e = exact.accepts l n e

  whole : {l : L} {n : ℕ} → filling read s ≡ got l n → (read s 0 ≡ got l n) × (length s ≤ n)
  whole {l} {n} e = go (read s 0) refl
    where
      ends : (m : L) (k : ℕ) → read s 0 ≡ got m k → (b : Bool) → ltb k (length s) ≡ b → pick b (refused (bare TRAIL)) (got m k) ≡ got l n → (read s 0 ≡ got l n) × (length s ≤ n)
      ends m k f true g h = zero_one (cc)
      ends m k f false g h = let same : k ≡ n = cc in (f ∙ h, omega (arith, ltb-false k (length s) g))

      go : (y : Answer L) → read s 0 ≡ y → (read s 0 ≡ got l n) × (length s ≤ n)
      go (got m k) f = ends m k f (ltb k (length s)) refl (sym (on_got f) ∙ e)
      go (refused t) f = let z = sym (on_refused f) ∙ e in zero_one (cc)

  shorter : filling read s ≡ refused (bare TRAIL) → Shorter G s
  shorter e = go (read s 0) refl
    where
      ends : (m : L) (k : ℕ) → read s 0 ≡ got m k → (b : Bool) → ltb k (length s) ≡ b → pick b (refused (bare TRAIL)) (got m k) ≡ refused (bare TRAIL) → Shorter G s
      ends m k f true g h = record { reading = mean m; size = k; front = word f; more = ltb-true k (length s) g }
      ends m k f false g h = zero_one (cc)

      go : (y : Answer L) → read s 0 ≡ y → Shorter G s
      go (got m k) f = ends m k f (ltb k (length s)) refl (sym (on_got f) ∙ e)
      go (refused t) f = let same : t ≡ bare TRAIL = let z = sym (on_refused f) ∙ e in cc in absurd (not_3 (blame.either t f) (f ∙ ap refused same))

  fills : Fills G B P mean s (filling read s)
  fills = record {
    accepts = λ l n e. let w = whole e in (omega (arith, w.1, (word w.0).within), filled (word w.0) w.1);
    reaches = λ r g.
        let a = exact.reaches r (length s) (record { within = omega arith; reads = rw (take_all (length s) s (omega arith)) g }) in
        (a.0, on_got a.1 ∙ rw (le-ltb (length s) (length s) (omega arith)), a.2);
    trails = (shorter, λ x. let a = exact.reaches x.reading x.size x.front in on_got a.1 ∙ rw (lt-ltb x.size (length s) x.more));
    unread = λ none. go none (read s 0) refl;
  }
    where
      go : (Begins G s → ⊥) → (y : Answer L) → read s 0 ≡ y → ((t : Told) × (filling read s ≡ refused t)) × Points B P s 0 (filling read s)
      go none (got l n) f = absurd (none (mean l, (n, word f)))
      go none (refused t) f = ((t, on_refused f), subst (Points B P s 0) (f ∙ sym (on_refused f)) spot)

-- ── of the functions' own answers ──

-- an array is one field, and has no text
handles_clean : Faulted Clean (array 4)
handles_clean = one_faults (same_faults all_clean (λ v b. first b) (count_faults 4 λ n. cells_faults 4 n))

handles_spotted : Spotted (Here Handles) (array 4)
handles_spotted = one_spotted (array_format 4) (field_owned (count_faults 4 λ n. cells_faults 4 n))

numbers : Placed (λ _ n. n) (λ _. []) (num_at 4) (num_at 4)
numbers = record { agrees = λ s at. means_same (num_at 4 s at); inside = num_lies 4 }

module _ (s : List ℕ) (h : Bytes s) where
  fills_as : {R L : Type 0} {G : Grammar R} {B : Fault} {P : Spot} {F : Codec R} {mean : List ℕ → L → R} {parts : L → List (ℕ × ℕ)} (read : Reader L) → Format G F → Faulted B F → Spotted P F → Placed mean parts read F.read → Fills G B P (mean s) s (filling read s)
  fills_as read f b p places = fills read s (reads_exactly f places s h (read s 0) refl) (refuses_exactly f b places s h 0 (read s 0) refl) (points_exactly f b p places s h 0 (read s 0) refl)

  -- object handles and storage IDs
  pub handles_fill : (r : Read Part) → says_read r ≡ handles_payload s → Fills Handles Clean (Here Handles) (items_in 4 s) s (says_read r)
  handles_fill r promised = rw promised (fills_as (array_at 4) (array_format 4) handles_clean handles_spotted (arrays 4))

  pub storage_fills : (r : Read StorageInfo) → says_storage r ≡ storage_payload s → Fills (Row storage) (RowFault storage) (RowSpot storage) (row_in storage s) s (says_storage r)
  storage_fills r promised = rw promised (fills (row_at storage) s (reads_exactly (row_format storage) (rows storage) s h (row_at storage s 0) refl) (row_blame s h 0 storage) (row_spot_at s h 0 storage))

  pub count_fills : (r : Read ℕ) → says_read r ≡ count_payload s → Fills ObjectCount Clean (Here ObjectCount) (λ n. n) s (says_read r)
  count_fills r promised = rw promised (fills_as (num_at 4) (number_format 4) (number_faults 4) (number_spotted 4) numbers)
