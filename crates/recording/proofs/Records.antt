-- The reader of records is faithful to their grammar, of which every word is tidy.
-- Assumes nothing.
use mathlib.Core.Path.{◌≡◌, refl, ap, sym, subst, ◌∙◌}
use mathlib.Core.Bool.{Bool, true, false}
use mathlib.Core.List.{List, [], ◌++◌}
use Prim.Native.Nat.{ℕ, ◌+◌, ◌-◌, ◌≤◌, ◌<◌}
use native.Mathlib.Omega.{arith}
use borrow.Author.Tests.{le-leb, leb-true, eqb-true, eqb-false, eq-eqb, ne_eqb}
use lib.Dec.{leb, eqb}
use lib.ListN.{length, take, drop, length-append, length-drop}
use lib.Seq.{length-take-le, take-take}
use Rattle.layout.specs.Answer.{Answer, got, refused, pick, after, means, span_at}
use Rattle.layout.specs.Bytes.{Bytes, bytes}
use Rattle.layout.specs.Format.{Stands, Sound, word, none, Format}
use Rattle.layout.specs.Grammar.{loose, tidy, num}
use Rattle.layout.specs.Placed.{Inside}
use Rattle.layout.proofs.laws.Accepted.{Accepts, accepted, accepts_after, accepts_both, accepts_means, accepts_pick, accepts_span}
use Rattle.layout.proofs.laws.Make.{number_format, span_there}
use Rattle.layout.proofs.laws.Numbers.{Bytes-drop, Bytes-take, length_bytes, zero_one}
use Rattle.layout.proofs.laws.Reading.{drop_take, unmeant}
use Rattle.layout.proofs.laws.Single.{Single}
use Rattle.layout.proofs.laws.Words.{fits, join, part_there, split}
use Rattle.wire.specs.Codecs.{box_in}
use Rattle.wire.specs.Container.{container_at}
use Rattle.wire.specs.Layout.{Box, Container}
use Rattle.wire.specs.Places.{num_at}
use Rattle.wire.specs.Returned.{part_of}
use Rattle.wire.specs.declared.Part.{Part}
use Rattle.wire.specs.declared.container.Container as declared
use Rattle.wire.proofs.laws.Boxes.{container-word, container_format, containers_single}
use Rattle.wire.proofs.laws.Contained.{cell, Boxed, container_stands}
use Rattle.wire.proofs.laws.Located.{inside_both}
use Rattle.recording.specs.Codecs.{entry_in, content_parts, record_parts, entry_word, entry}
use Rattle.recording.specs.Content as content
use Rattle.recording.specs.Content.{Content}
use Rattle.recording.specs.Layout.{Entry, holds, note, longest, Record, held, noted}
use Rattle.recording.specs.Record.{limit, is_kind, begins, content_at, body_at, head_at, record_at, record_word}
use Rattle.recording.specs.declared.Head.{Head}
use Rattle.recording.proofs.Recorded.{long_enough}
use Rattle.recording.proofs.laws.Rowed.{head_placed}

-- ── a part of bytes and of their front ──

part_front : (s : List ℕ) (end : ℕ) (p : Part) → p.start + p.count ≤ end → part_of (take end s) p ≡ part_of s p
part_front s end p h =
    let all : p.start + (end - p.start) ≡ end = omega arith in
    ap (λ e. take p.count (drop p.start (take e s))) (sym all) ∙ ap (take p.count) (drop_take p.start (end - p.start) s) ∙ take-take p.count (end - p.start) (drop p.start s) (omega arith)

box_front : (s : List ℕ) (end : ℕ) (x : declared.Container) → x.payload.start + x.payload.count ≤ end → box_in (take end s) x ≡ box_in s x
box_front s end x h = rw (part_front s end x.payload h)

-- ── what is read is a word ──

known : (len kind : ℕ) → begins len kind ≡ true → (1 ≤ kind) × (kind ≤ 3)
unfolding is_kind
known len kind = go (leb 6 len) (leb 1 kind) refl (leb kind 3) refl
  where
    go : (a b : Bool) → leb 1 kind ≡ b → (c : Bool) → leb kind 3 ≡ c → pick a (pick b c false) false ≡ true → (1 ≤ kind) × (kind ≤ 3)
    go true true low true high e = (leb-true 1 kind low, leb-true kind 3 high)
    go true true low false high e = zero_one (cc)
    go true false low c high e = zero_one (cc)
    go false b low c high e = zero_one (cc)

-- what a body holds, in bytes that end with it
data Holding (kind : ℕ) (s : List ℕ) (at n : ℕ) : Content → Type 0 where
  a_note : kind ≡ 3 → n ≡ length s → Holding kind s at n content.note
  a_container : {x : declared.Container} {w : List ℕ} → (kind ≡ 3 → ⊥) → n ≡ length s → Stands s at n w → Container loose w (box_in s x) → Boxed s at x n → Holding kind s at n (content.holds x)

content_holding : (kind : ℕ) (s : List ℕ) → Bytes s → (at : ℕ) → Accepts (λ c n. Holding kind s at n c) (content_at kind s at)
unfolding content_at
content_holding kind s h at =
    accepts_pick _ (eqb kind 3) _ _
    (λ e. a_note (eqb-true kind 3 e) refl)
    (λ e.
    accepts_after _ _ (container_at s at) _ (accepts_both _ _ (container_at s at) (container-word s h at) (container_stands s at)) λ x n p.
    accepts_pick _ (eqb n (length s)) _ _ (λ f. a_container (eqb-false kind 3 e) (eqb-true n (length s) f) p.0.1 p.0.2 p.1) (λ _. tt))

module _ (s : List ℕ) (h : Bytes s) (at : ℕ) where
  -- a head's two numbers
  record Fronts (x : Head) (n : ℕ) : Type 0 where
    stands : Stands s at x.body.start (bytes 4 (6 + x.body.count) ++ bytes 2 x.kind)
    low : 1 ≤ x.kind
    high : x.kind ≤ 3
    small : x.body.count ≤ longest

  head_fronts : Accepts Fronts (head_at s at)
  unfolding head_at body_at
  head_fronts =
      accepts_after _ _ (num_at 4 s at) _ (cell 4 s h at) λ len a p.
      accepts_after _ _ (num_at 2 s a) _ (cell 2 s h a) λ kind start q.
      accepts_pick _ (begins len kind) _ _
      (λ e.
      accepts_pick _ (leb (len - 6) limit) _ _
      (λ few.
      let all : 6 + (len - 6) ≡ len = omega (arith, long_enough len kind e) in
      let k = known len kind e in
      accepts_means _ _ _ (span_at start (len - 6) s start) (accepts_span start (len - 6) s start) λ _ n t.
      record { stands = rw all (join p.0 q.0); low = k.0; high = k.1; small = leb-true (len - 6) limit few })
      (λ _. tt))
      (λ _. tt)

  abbrev Words : content.Record → ℕ → Type 0
  Words x n = (w : List ℕ) × Stands s at n w × Record loose w (entry_in s x)

  module _ (x : Head) (end : ℕ) (f : Fronts x end) (till : end ≡ x.body.start + x.body.count) (within : end ≤ length s) where
    body : List ℕ
    body = part_of s x.body

    body_stands : Stands s x.body.start end body
    unfolding body
    body_stands = subst (λ n. Stands s x.body.start n (part_of s x.body)) (sym till) (part_there s x.body.start x.body.count (omega (arith, till, within)))

    body_long : length body ≡ x.body.count
    unfolding body
    body_long = length-take-le x.body.count (drop x.body.start s) (omega (arith, till, within, length-drop x.body.start s))

    whole : Stands s at end (bytes 4 (6 + length body) ++ bytes 2 x.kind ++ body)
    whole = let front : Stands s at x.body.start (bytes 4 (6 + length body) ++ bytes 2 x.kind) = rw body_long f.stands in join front body_stands

    few : length body ≤ longest
    few = omega (arith, body_long, f.small)

    front_long : length (take end s) ≡ end
    front_long = length-take-le end s within

    held_word : (c : Content) (n : ℕ) → Holding x.kind (take end s) x.body.start n c → Words (record { kind = x.kind; body = x.body; content = c }) n
    unfolding body
    held_word c n (a_note three full) =
        let same : n ≡ end = full ∙ front_long in
        (_, subst (λ m. Stands s at m (bytes 4 (6 + length body) ++ bytes 2 3 ++ body)) (sym same) (rw three at whole), noted body few (Bytes-take x.body.count (drop x.body.start s) (Bytes-drop x.body.start s h)))
    held_word c n (a_container {x = y} {w = w} other full st g b) =
        let same : n ≡ end = full ∙ front_long in
        let two : x.kind ≤ 2 = two_at_most x.kind f.high other in
        let long : length w ≡ x.body.count = omega (arith, st.till, same, till) in
        let is : w ≡ body = sym st.is ∙ ap (λ k. take k (drop x.body.start (take end s))) long ∙ part_front s end x.body (omega (arith, till)) in
        let box : box_in (take end s) y ≡ box_in s y = box_front s end y (omega (arith, b.till, same)) in
        (_, subst (λ m. Stands s at m (bytes 4 (6 + length body) ++ bytes 2 x.kind ++ body)) (sym same) whole, held x.kind f.low two few (subst (λ v. Container loose v (box_in s y)) is (subst (λ z. Container loose w z) box g)))
      where
        two_at_most : (k : ℕ) → k ≤ 3 → (k ≡ 3 → ⊥) → k ≤ 2
        two_at_most k a b = omega arith

  pub record-word : Accepts Words (record_at s at)
  unfolding record_at
  record-word =
      accepts_after _ _ (head_at s at) _ (accepts_both _ _ (head_at s at) head_fronts (head_placed s at)) λ x end p.
      accepts_means _ _ _ (content_at x.kind (take end s) x.body.start) (content_holding x.kind (take end s) (Bytes-take end s h) x.body.start) λ c n q.
      held_word x end p.0 (omega (arith, p.1.0, p.1.1)) p.1.2 c n q

  record_sound : Sound Record s at (means (entry_in s) (record_at s at))
  unfolding means
  record_sound = go (record_at s at) record-word
    where
      go : (x : Answer content.Record) → Accepts Words x → Sound Record s at (means (entry_in s) x)
      go (got x n) p = word p.1 p.2
      go (refused t) p = none

-- ── every word is read ──

-- a container that fills the bytes
pub content_there : (kind : ℕ) (s : List ℕ) (at : ℕ) {w : List ℕ} {b : Box} → kind ≤ 2 → Stands s at (length s) w → Container loose w b →
    (x : declared.Container) × (content_at kind s at ≡ got (content.holds x) (length s)) × (box_in s x ≡ b) × (x.payload.start + x.payload.count ≤ length s)
unfolding content_at after
content_there kind s at {b = b} two st g = let (x, read, is) = unmeant (box_in s) (container_at s at) (container_format.complete st g) in of x read is
  where
    of : (x : declared.Container) → container_at s at ≡ got x (length s) → box_in s x ≡ b →
        (x : declared.Container) × (content_at kind s at ≡ got (content.holds x) (length s)) × (box_in s x ≡ b) × (x.payload.start + x.payload.count ≤ length s)
    of x read is =
        let stood = accepted (Boxed s at) (container_stands s at) (sym read) in
        (x, rw (ne_eqb kind 3 (λ e. omega arith), read, eq-eqb (length s) (length s) refl), is, omega (arith, stood.till))

module _ (s : List ℕ) (at n kind : ℕ) (body : List ℕ) (low : 1 ≤ kind) (high : kind ≤ 3) (few : length body ≤ longest)
    (st : Stands s at n (bytes 4 (6 + length body) ++ bytes 2 kind ++ body)) where
  here : Head
  here = record { kind = kind; body = record { start = at + 6; count = length body } }

  till : n ≡ at + 6 + length body
  till = omega (arith, st.till, length-append (bytes 4 (6 + length body) ++ bytes 2 kind) body, length-append (bytes 4 (6 + length body)) (bytes 2 kind), length_bytes 4 (6 + length body), length_bytes 2 kind)

  within : n ≤ length s
  within = omega (arith, st.till, fits st, till)

  body_there : Stands s (at + 6) n body
  body_there =
      let p = split (bytes 4 (6 + length body) ++ bytes 2 kind) body st in
      let size : at + length (bytes 4 (6 + length body) ++ bytes 2 kind) ≡ at + 6 = omega (arith, length-append (bytes 4 (6 + length body)) (bytes 2 kind), length_bytes 4 (6 + length body), length_bytes 2 kind) in
      rw size at p.1

  head_there : head_at s at ≡ got here n
  unfolding here head_at body_at is_kind after means
  head_there =
      let p = (split (bytes 4 (6 + length body) ++ bytes 2 kind) body st).0 in
      let q = split (bytes 4 (6 + length body)) (bytes 2 kind) p in
      let four : at + length (bytes 4 (6 + length body)) ≡ at + 4 = omega (arith, length_bytes 4 (6 + length body)) in
      let six : at + length (bytes 4 (6 + length body) ++ bytes 2 kind) ≡ at + 6 = omega (arith, length-append (bytes 4 (6 + length body)) (bytes 2 kind), length_bytes 4 (6 + length body), length_bytes 2 kind) in
      let len : num_at 4 s at ≡ got (6 + length body) (at + 4) = (number_format 4).complete q.0 (num (omega arith)) ∙ ap (got (6 + length body)) four in
      let second : Stands s (at + 4) (at + 6) (bytes 2 kind) = rw (four, six) at q.1 in
      let two : num_at 2 s (at + 4) ≡ got kind (at + 6) = (number_format 2).complete second (num (omega arith)) in
      let count : 6 + length body - 6 ≡ length body = omega arith in
      rw (len, two, le-leb 6 (6 + length body) (omega arith), le-leb 1 kind low, le-leb kind 3 high, count, le-leb (length body) limit few, span_there (at + 6) (length body) s (at + 6) (omega (arith, till, within)), till)

  ends_there : length (take n s) ≡ n
  ends_there = length-take-le n s within

  part_is : part_of s (record { start = at + 6; count = length body }) ≡ body
  part_is = body_there.is

  record_there : {c : Content} → content_at kind (take n s) (at + 6) ≡ got c n → record_at s at ≡ got (record { kind = kind; body = record { start = at + 6; count = length body }; content = c }) n
  unfolding here record_at after means
  record_there e = rw (head_there, e)

  note_there : kind ≡ 3 → means (entry_in s) (record_at s at) ≡ got (note body) n
  unfolding content_at means
  note_there three = rw (record_there {c = content.note} (rw (three, ends_there)), part_is)

  container_there : kind ≤ 2 → {b : Box} → Container loose body b → means (entry_in s) (record_at s at) ≡ got (holds kind b) n
  unfolding means
  container_there two {b} g =
      let own : take (length body) (drop (at + 6) (take n s)) ≡ body = part_front s n (record { start = at + 6; count = length body }) (omega (arith, till)) ∙ part_is in
      let (x, read, is, inside) = content_there kind (take n s) (at + 6) two (record { is = own; till = ends_there ∙ till }) g in
      let box : box_in s x ≡ b = sym (box_front s n x (omega (arith, inside, ends_there))) ∙ is in
      rw (record_there (read ∙ ap (got (content.holds x)) ends_there), box)

record_complete : {s w : List ℕ} {at n : ℕ} {r : Entry} → Stands s at n w → Record loose w r → means (entry_in s) (record_at s at) ≡ got r n
record_complete {s} {w} {at} {n} st (noted v small b) = note_there s at n 3 v (omega arith) (omega arith) small st refl
record_complete {s} {w} {at} {n} st (held kind {w = v} low high small g) = container_there s at n kind v low (omega arith) small st high g

-- ── one spelling ──

record_inside : {w : List ℕ} {r : Entry} → Record tidy w r → Record loose w r
record_inside (noted v small b) = noted v small b
record_inside (held kind low high small g) = held kind low high small (container_format.inside g)

record_one : {w : List ℕ} {r : Entry} → Record tidy w r → w ≡ entry_word r
unfolding record_word
record_one (noted v small b) = refl
record_one (held kind low high small g) = rw (container_format.one g)

-- every word is the tidy one
pub records_single : Single Record
records_single w r (noted v small b) = noted v small b
records_single w r (held kind {w = v} {x = x} low high small g) = held kind low high small (containers_single v x g)

record_has : {w : List ℕ} {r : Entry} → Record loose w r → Record tidy (entry_word r) r
record_has {w} {r} g = let t = records_single w r g in subst (λ v. Record tidy v r) (record_one t) t

pub record_format : Format Record entry
record_format = record { sound = record_sound; complete = record_complete; inside = record_inside; one = record_one; has = record_has }

-- ── by places ──

content_lies : (kind : ℕ) (s : List ℕ) (at : ℕ) → Accepts (λ c n. (n ≡ length s) × Inside at n (content_parts c)) (content_at kind s at)
unfolding content_at
content_lies kind s at =
    accepts_pick _ (eqb kind 3) _ _ (λ _. (refl, tt))
    (λ _.
    accepts_after _ _ (container_at s at) _ (container_stands s at) λ x n b.
    accepts_pick _ (eqb n (length s)) _ _ (λ e. (eqb-true n (length s) e, (omega (arith, b.start), omega arith, omega (arith, b.till), tt))) (λ _. tt))

pub record-parts : (s : List ℕ) (at : ℕ) → Accepts (λ x n. (at < n) × Inside at n (record_parts x)) (record_at s at)
unfolding record_at
record-parts s at =
    accepts_after _ _ (head_at s at) _ (head_placed s at) λ x end p.
    accepts_means _ _ _ (content_at x.kind (take end s) x.body.start) (content_lies x.kind (take end s) x.body.start) λ c n q.
    let same : n ≡ end = q.0 ∙ length-take-le end s p.2 in
    (omega (arith, p.1, same), (omega (arith, p.0), omega arith, omega (arith, p.0, p.1, same), inside_both [] (content_parts c) (omega (arith, p.0)) (omega (arith, p.1, same)) tt q.1))
