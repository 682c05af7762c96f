-- Demand 3 of records and of the recording, of the functions' own answers: `r` is any answer that the reader's promise allows.
-- Assumes nothing.
use Rattle.wire.specs.Read.{Read, says_read}
use mathlib.Core.Path.{◌≡◌, refl, ap, sym, subst, ◌∙◌}
use mathlib.Core.Bool.{true}
use mathlib.Core.Logic.{◌↔◌, inl, inr}
use mathlib.Core.List.{List, map}
use Prim.Native.Nat.{ℕ, ◌+◌, ◌≤◌, ◌<◌}
use native.Mathlib.Omega.{arith}
use borrow.Author.Tests.{le-leb}
use lib.ListN.{length, take, drop, length-map}
use Rattle.layout.specs.Answer.{Told, Answer, got, refused, means}
use Rattle.layout.specs.Bytes.{Bytes, bytes}
use Rattle.layout.specs.Faithful.{Prefix, Faithful, Exact}
use Rattle.layout.specs.Grammar.{loose, tidy}
use Rattle.layout.specs.Placed as places
use Rattle.layout.specs.Placed.{Lies, lies, nowhere}
use Rattle.layout.specs.Refusals.{END, TEXT}
use Rattle.layout.specs.Written.{says}
use Rattle.layout.proofs.laws.Accepted.{Accepts, accepted}
use Rattle.layout.proofs.laws.Meets.{faithful, reads_exactly}
use Rattle.layout.proofs.laws.Numbers.{zero_one}
use Rattle.layout.proofs.laws.Reading.{drop_take, one_got, refused_meant, unmeant}
use Rattle.layout.proofs.laws.Words.{self}
use Rattle.wire.specs.Anywhere.{ExactAt}
use Rattle.wire.specs.Codecs.{box_in}
use Rattle.wire.specs.Layout as L
use Rattle.wire.specs.Layout.{Box, Container}
use Rattle.wire.specs.Returned.{part_of}
use Rattle.wire.specs.declared.container.Container as declared
use Rattle.recording.specs.declared.Record as declared-record
use Rattle.wire.proofs.laws.Boxes.{box_said, said_box}
use Rattle.wire.proofs.laws.Exactly.{exact_at}
use Rattle.recording.specs.Codecs.{entry_in, record_parts, entry_word, entry}
use Rattle.recording.specs.Content as content
use Rattle.recording.specs.Copied.{move_told}
use Rattle.recording.specs.Layout.{Entry, holds, longest, Record, held, noted, Recording, none, one_more}
use Rattle.recording.specs.Older.{AllRead}
use Rattle.recording.specs.Record.{is_written, record_at, record_of, record_word, record_said, says_record}
use Rattle.recording.specs.Recording.{Follows, Stops, Typed, Writes, nothing, and_one, NoNotes}
use Rattle.recording.specs.Row.{records_in, row_of}
use Rattle.recording.proofs.ReadBack.{due}
use Rattle.recording.proofs.Recorded.{said_bytes}
use Rattle.recording.proofs.Records.{content_there, record_format, record-parts, records_single}
use Rattle.recording.proofs.Recordings.{recording_complete, recording_sound, follows, row_end, stops_row, row_stops, read_all, all_read}
use Rattle.recording.proofs.Told.{never_2, recording_told}
use Rattle.recording.proofs.laws.Rowed.{Placed, record_placed}

-- ── a record ──

-- every word is the tidy one (`records_single`, Records)
pub records : Faithful Record entry
records = faithful record_format

record_lies : (s : List ℕ) (at : ℕ) → Lies record_parts at (record_at s at)
record_lies s at = go (record_at s at) (record-parts s at)
  where
    go : (x : Answer content.Record) → Accepts (λ x n. (at < n) × places.Inside at n (record_parts x)) x → Lies record_parts at x
    go (got x n) p = lies x n (omega (arith, p.0)) p.1
    go (refused t) p = nowhere

entries : places.Placed entry_in record_parts record_at entry.read
entries = record { agrees = λ s at. refl; inside = record_lies }

-- what the writer has to say of a kind and a container
written : (kind : ℕ) → 1 ≤ kind → kind ≤ 2 → is_written kind ≡ true
unfolding is_written
written kind low high = rw (le-leb 1 kind low, le-leb kind 2 high)

record-said : (kind : ℕ) {v : List ℕ} {b : Box} → 1 ≤ kind → kind ≤ 2 → length v ≤ longest → Container loose v b → record_said kind v ≡ says (record_word kind v)
record-said kind {v} low high small g = let (x, read, is, inside) = content_there kind v 0 high (self v) g in said_bytes kind v (written kind low high) small (sym read)

-- of the body that stands behind the six first bytes of a record
word_back : {w : List ℕ} {x : Entry} → Record loose w x → (kind : ℕ) (b : Box) → x ≡ holds kind b → record_said kind (drop 6 w) ≡ says w
unfolding record_word bytes
word_back (noted v small bs) kind b is = zero_one (cc)
word_back (held kind low high small g) k b is = let same : k ≡ kind = cc in rw same (record-said kind low high small g)

module _ (s : List ℕ) (h : Bytes s) where
  -- at any place: accepted exactly when a word stands there, with its reading and its length, and every part lies in it
  pub record_exact_at : (at : ℕ) (r : Read declared-record.Record) → says_record r ≡ record_at s at → ExactAt Record (entry_in s) record_parts s at (says_record r)
  record_exact_at at r promised = exact_at record_format entries s h at (says_record r) promised

  module _ (r : Read declared-record.Record) (promised : says_record r ≡ record_of s) where
    pub record_exact : Exact Record (entry_in s) s (says_record r)
    record_exact = reads_exactly record_format entries s h (says_record r) promised

    -- no other prefix is a record, and it has no other reading
    pub record_unique : (x : content.Record) (n : ℕ) → says_record r ≡ got x n → (y : Entry) (m : ℕ) → Prefix Record s y m → (m ≡ n) × (y ≡ entry_in s x)
    record_unique x n e y m p = records.unique s y (entry_in s x) m n p (record_exact.accepts x n e)

    pub record_inside : Lies record_parts 0 (says_record r)
    record_inside = subst (Lies record_parts 0) (sym promised) (record_lies s 0)

    -- what is read, and is no note, is written back as it stood
    pub record_back : (x : content.Record) (n : ℕ) → says_record r ≡ got x n → (c : declared.Container) → x.content ≡ content.holds c → record_said x.kind (part_of s x.body) ≡ says (take n s)
    record_back x n e c is =
        let placed = accepted (Placed s 0) (record_placed s 0) (sym e ∙ promised) in
        let reading : entry_in s x ≡ holds x.kind (box_in s c) = rw is in
        let size : n ≡ 6 + x.body.count = omega (arith, placed.till) in
        let body : drop 6 (take n s) ≡ part_of s x.body = rw (size, placed.start) (drop_take 6 x.body.count s) in
        rw (← body) (word_back (record_exact.accepts x n e).reads x.kind (box_in s c) reading)

-- ── a recording: bytes and records ──

-- accepted from end to end exactly when the bytes are a recording, and then with these records
pub recording_exact : (s : List ℕ) → Bytes s → (es : List Entry) → (means (map (entry_in s)) (row_of s) ≡ got es (length s)) ↔ Recording loose s es
unfolding means
recording_exact s h es = (
  λ e. let (xs, row, are) = unmeant (map (entry_in s)) (row_of s) e in subst (λ ys. Recording loose s ys) are (recording_sound s h row),
  λ r. let (xs, row, are) = recording_complete s r in rw (row, are),
)

-- it can be cut in one way only
pub one_cut : (s : List ℕ) (es es' : List Entry) → Recording loose s es → Recording loose s es' → es ≡ es'
one_cut s es es' a b =
    let (xs, row, are) = recording_complete s a in
    let (xs', row', are') = recording_complete s b in
    sym are ∙ ap (map (entry_in s)) (one_got (sym row ∙ row')).0 ∙ are'

entry-word : {w : List ℕ} {x : Entry} → Record loose w x → w ≡ entry_word x
entry-word {w} {x} g = record_format.one (records_single w x g)

-- the same records in the same order, bodies included, are the same bytes
pub same_bytes : {s t : List ℕ} {es : List Entry} → Recording loose s es → Recording loose t es → s ≡ t
same_bytes none none = refl
same_bytes (one_more g r) (one_more g' r') = cc (entry-word g, entry-word g', same_bytes r r')

-- every word is the tidy one
pub recordings_single : (w : List ℕ) (es : List Entry) → Recording loose w es → Recording tidy w es
recordings_single w es none = none
recordings_single w es (one_more {u} {v} {x} {xs} g r) = one_more (records_single u x g) (recordings_single v xs r)

-- every record that the listing goes through is read exactly when the bytes are a recording
pub rows_alike : (s : List ℕ) → Bytes s → AllRead (records_in s) ↔ ((es : List Entry) × Recording loose s es)
unfolding records_in
rows_alike s b = (all_read (length s) s (omega arith) b, λ r. read_all r.1)

-- ── what is written of the records, one after the other ──

-- is a recording of just those
pub recording_written : {es : List Entry} {w : List ℕ} → Writes es w → Recording loose w es
unfolding record_word
recording_written nothing = none
recording_written (and_one {kind = kind} {b = b} {v = v} {w = w} typed box said rest) =
    let g = said_box b typed.code typed.number typed.payload box in
    let d = due kind v w said in
    one_more (subst (λ u. Record loose u (holds kind b)) (sym d.word) (held kind d.low d.high d.small g)) (recording_written rest)

typed_box : {w : List ℕ} {b : Box} → Container loose w b → Typed b
typed_box (L.container x low high code tid small bs) = record { code = code; number = tid; payload = bs }

writes_all : {s : List ℕ} {es : List Entry} → Recording loose s es → NoNotes es → Writes es s
unfolding record_word
writes_all none all = nothing
writes_all (one_more (held kind low high small g) r) all = and_one (typed_box g) (box_said g) (record-said kind low high small g) (writes_all r all)
writes_all (one_more (noted v small bs) r) all = absurd all

-- so, where none is a note, it is the bytes that were read
pub recording_back : {s : List ℕ} {es : List Entry} → Recording loose s es → NoNotes es → (w : List ℕ) → Writes es w ↔ (w ≡ s)
recording_back {s} {es} r all w = (λ p. same_bytes (recording_written p) r, λ e. subst (λ v. Writes es v) (sym e) (writes_all r all))

-- ── of `read_recording`'s own answer ──

module _ (s : List ℕ) (h : Bytes s) (r : (Read ℕ)) (promised : says_read r ≡ means length (row_of s)) where
  row_read : {k n : ℕ} → says_read r ≡ got k n → (xs : List content.Record) × (row_of s ≡ got xs n) × (length xs ≡ k)
  row_read e = unmeant length (row_of s) (sym promised ∙ e)

  -- accepted exactly when the bytes are a recording, with the number of its records and the place after the last
  pub recording_counts : (k n : ℕ) → (says_read r ≡ got k n) ↔ ((es : List Entry) × Recording loose s es × (k ≡ length es) × (n ≡ length s))
  unfolding means
  recording_counts k n = (
    λ e. let (xs, row, count) = row_read e in (map (entry_in s) xs, recording_sound s h row, sym count ∙ sym (length-map xs (entry_in s)), row_end s row),
    λ p. counted p.0 p.1 p.2 p.3,
  )
    where
      counted : (es : List Entry) → Recording loose s es → k ≡ length es → n ≡ length s → says_read r ≡ got k n
      counted es all count end =
          let (xs, row, are) = recording_complete s all in
          let same : length xs ≡ k = sym (length-map xs (entry_in s)) ∙ ap length are ∙ sym count in
          promised ∙ ap (means length) row ∙ rw (same, end)

  -- as many as `read_record_at` reads one after the other, from the first place to the end, with their parts inside; and they are the recording's
  pub recording_inside : (k n : ℕ) → says_read r ≡ got k n → (xs : List content.Record) × (length xs ≡ k) × Follows s 0 xs n × Recording loose s (map (entry_in s) xs)
  recording_inside k n e = let (xs, row, count) = row_read e in (xs, count, follows s row, recording_sound s h row)

  -- refused exactly as the first record that is refused, which stands behind a recording
  pub refused_first : (t : Told) → (says_read r ≡ refused t) ↔ Stops s t
  unfolding means
  refused_first t = (
    λ e. row_stops s h (refused_meant length (row_of s) (sym promised ∙ e)),
    λ p. promised ∙ ap (means length) (stops_row s p),
  )

  -- so a refusal has a place exactly where it is 1
  pub recording_placed : (t : Told) → says_read r ≡ refused t → (t.placed ≡ true) ↔ (t.no ≡ END)
  unfolding move_told
  recording_placed t e =
      let exactly = (recording_told s r promised).0.exactly t e in
      let p = (refused_first t).0 e in
      let other : t.no ≡ TEXT → ⊥ = λ two. never_2 (drop p.place s) (ap (λ v. v.no) (sym p.told) ∙ two) refl p.refusal in
      (λ has. elim (exactly.0 has) [ inl one ↦ one | inr two ↦ absurd (other two) ], λ one. exactly.1 (inl one))
