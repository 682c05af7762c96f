-- What a copy comes to, beyond its promise: bytes and records add up; a recording without notes is its own copy; the copy is accepted from end to end and has
-- the records of kinds 1 and 2; the copies of parts end to end are the copy of the whole. And what was written is no note.
-- Assumes nothing.
use Rattle.std.specs.Prelude.{Ok, Err}
use Rattle.wire.specs.Read.{Read}
use mathlib.Core.Path.{◌≡◌, refl, sym, ap, subst, ◌∙◌}
use mathlib.Core.Bool.{Bool, true, false}
use mathlib.Core.List.{List, [], ◌∷◌, ◌++◌, map, append_assoc, append-nil}
use Prim.Native.Nat.{ℕ, zero, suc, ◌+◌, ◌-◌, ◌≤◌}
use native.Mathlib.Omega.{arith}
use lib.Dec.{leb, ltb}
use lib.ListN.{length, take, drop, length-append, length-drop, take-append-drop}
use lib.Seq.{length-take-le, take-add, drop-drop, take-append-le, drop-append-le, drop-append-add}
use Rattle.layout.specs.Answer.{Told, Answer, got, refused, bare, pick, after, means}
use Rattle.layout.specs.Refusals.{ROOM}
use Rattle.layout.specs.Written.{says, no, said_of, answer_of, left_of, spelling, Wrote}
use Rattle.layout.proofs.laws.Accepted.{Accepts, accepted, accepts_after, accepts_means, accepts_pick}
use Rattle.layout.proofs.laws.Determined.{Tells, retracts}
use Rattle.layout.proofs.laws.Numbers.{zero_one}
use Rattle.wire.specs.Returned.{part_of}
use Rattle.recording.specs.declared.Record as declared-record
use Rattle.recording.specs.Content.{Content, Record}
use Rattle.recording.specs.Content as content
use Rattle.recording.specs.Record.{is_written, record_at, record_of, record_said, says_record}
use Rattle.recording.specs.Returned.{Held, ReturnsRecord}
use Rattle.recording.specs.Row.{row_from, row_of, whole_of}
use Rattle.recording.specs.Copied.{bytes_in, kept_of, kept, written_in, AllWritten, copy_said, none, counted, left_by, left_out, copy_of, Copies, CopiesFront, says_copied, move_told, move, Alike, no_more, and_one, plus}
use Rattle.recording.specs.declared.copy.Left.{Left}
use Rattle.recording.specs.declared.copy.Front.{Front}
use Rattle.layout.specs.declared.Refusal.{Refusal}
use Rattle.std.specs.declared.result.Result.{Result}
use Rattle.recording.proofs.laws.Fronted.{body_same, record_before}
use Rattle.recording.proofs.Moved.{shifted, record_moved, rows_join}
use Rattle.recording.proofs.Placed.{row_got, row_none, copied_adds, same_kept}
use Rattle.recording.proofs.laws.Rowed.{Placed, record_placed}
use Rattle.recording.proofs.ReadBack.{record_returns}

-- ── one answer ──

abbrev copied-from : Answer Left → Result (ℕ × Left) Refusal
copied-from (got l n) = Ok (n, l)
copied-from (refused t) = Err t

copied_back : (r : Result (ℕ × Left) Refusal) → copied-from (says_copied r) ≡ r
copied_back (Ok (n, l)) = refl
copied_back (Err t) = refl

tells_copied : Tells says_copied
tells_copied = retracts copied-from copied_back

pub one_copied : (s old new new' : List ℕ) (x y : Result (ℕ × Left) Refusal) → Copies s old (says_copied x) new → Copies s old (says_copied y) new' → (x ≡ y) × (new ≡ new')
one_copied s old new new' x y p q = (tells_copied x y (p.answers ∙ sym q.answers), p.leaves ∙ sym q.leaves)

pub one_front : (s old new new' : List ℕ) (x y : Front) → CopiesFront s old x new → CopiesFront s old y new' → (x ≡ y) × (new ≡ new')
one_front s old new new' x y p q =
    let same = p.used ∙ sym q.used in
    let both = one_copied (take (whole_of s) s) old new new' x.copied y.copied p.copies q.copies in
    (rw (same, both.0), both.1)

-- ── what was done, where it was ──

pub record Did (s old : List ℕ) (l : Left) (n : ℕ) (new : List ℕ) : Type 0 where
  pub records : List Record
  pub end : ℕ
  pub row : row_of s ≡ got records end
  pub left : l ≡ left_by none records
  pub count : n ≡ length (kept_of s records)
  pub stands : new ≡ kept_of s records ++ drop n old

pub did : {s old new : List ℕ} {l : Left} {n : ℕ} → Copies s old (got l n) new → Did s old l n new
unfolding copy_of copy_said kept left_out said_of answer_of left_of means after
did {s} {old} {new} {l} {n} c = go (row_of s) refl c.answers c.leaves
  where
    room : (xs : List Record) (m : ℕ) → row_of s ≡ got xs m → (b : Bool) → ◌≡◌ {A = Answer Left} (got l n) (means (λ _. left_by none xs) (pick b (got (tt {0}) (length (kept_of s xs))) (refused (bare ROOM)))) →
        new ≡ pick b (kept_of s xs ++ drop (length (kept_of s xs)) old) old → Did s old l n new
    room xs m is true f e = let same : n ≡ length (kept_of s xs) = cc in record { records = xs; end = m; row = is; left = cc; count = same; stands = rw same e }
    room xs m is false f e = zero_one (cc)

    go : (y : Answer (List Record)) → row_of s ≡ y → got l n ≡ after (means (left_by none) y) (λ k _. means (λ _. k) (answer_of (said_of (means (kept_of s) y)) old)) → new ≡ left_of (said_of (means (kept_of s) y)) old → Did s old l n new
    go (got xs m) is f e = room xs m is (leb (length (kept_of s xs)) (length old)) f e
    go (refused t) is f e = zero_one (cc)

-- ── the sums ──

records_add : (l : Left) (xs : List Record) → length (written_in xs) + (left_by l xs).records ≡ l.records + length xs
unfolding left_by counted written_in
records_add l [] = omega arith
records_add l (x ∷ xs) = go (is_written x.kind) (records_add (counted l x.kind x.body.count) xs)
  where
    go : (b : Bool) → length (written_in xs) + (left_by (pick b l (record { records = l.records + 1; bytes = l.bytes + (6 + x.body.count) })) xs).records ≡ (pick b l (record { records = l.records + 1; bytes = l.bytes + (6 + x.body.count) })).records + length xs →
        length (pick b (x ∷ written_in xs) (written_in xs)) + (left_by (pick b l (record { records = l.records + 1; bytes = l.bytes + (6 + x.body.count) })) xs).records ≡ l.records + suc (length xs)
    go true e = omega arith
    go false e = omega arith

-- bytes copied and bytes left out make the recording's length; records copied and left out its number of records
pub copied_sum : (s old new : List ℕ) (l : Left) (n : ℕ) → Copies s old (got l n) new →
    (n + l.bytes ≡ length s) × ((xs : List Record) × ((m : ℕ) × ((row_of s ≡ got xs m) × (length (written_in xs) + l.records ≡ length xs))))
unfolding left_out kept means
copied_sum s old new l n c =
    let d = did c in
    (bytes d, (d.records, (d.end, (d.row, numbers d))))
  where
    bytes : Did s old l n new → n + l.bytes ≡ length s
    bytes d =
        let adds = accepted _ (copied_adds s) (sym (ap (means (left_by none)) d.row)) in
        let size : spelling (kept s) ≡ kept_of s d.records = ap (λ y. spelling (means (kept_of s) y)) d.row in
        omega (arith, adds.0, ap length size, d.count, ap (λ k. k.bytes) d.left)

    numbers : (d : Did s old l n new) → length (written_in d.records) + l.records ≡ length d.records
    numbers d = rw d.left (records_add none d.records ∙ (omega arith))

-- ── a recording without notes ──

none_left : (l : Left) (xs : List Record) → AllWritten xs → left_by l xs ≡ l
unfolding left_by counted
none_left l [] all = refl
none_left l (x ∷ xs) all = rw all.0 (none_left l xs all.1)

pub copied_same : (s : List ℕ) (xs : List Record) (n : ℕ) → row_of s ≡ got xs n → AllWritten xs → (copy_said s ≡ says s) × (left_out s ≡ got none n)
unfolding copy_said kept left_out said_of means row_of
copied_same s xs n row all =
    let same : kept_of s xs ≡ s = accepted _ (same_kept (length s) s 0 (omega arith) (omega arith)) (sym row) all in
    (ap (λ y. said_of (means (kept_of s) y)) row ∙ ap says same, ap (means (left_by none)) row ∙ ap (λ l. got l n) (none_left none xs all))

-- ── what is written ──

-- it is read back as that kind and body, and is no note
pub written_read : (kind : ℕ) (body old new : List ℕ) (n : ℕ) → Wrote (record_said kind body) old (got tt n) new → (r : Read declared-record.Record) → says_record r ≡ record_of new →
    (b : ReturnsRecord kind body new n (says_record r)) × (b.found.content ≡ content.note → ⊥)
written_read kind body old new n promised r e = let b = record_returns kind body old new n promised r e in (b, not_a_note b.found.content b.held)
  where
    not_a_note : (c : Content) → Held body new c → c ≡ content.note → ⊥
    not_a_note (content.holds x) h e = zero_one (cc)
    not_a_note content.note h e = elim h [ ]

-- ── a record alone ──

-- of a record's own bytes its reading is the same
front_same : (v : List ℕ) {x : Record} {n : ℕ} → got x n ≡ record_of v → record_of (take n v) ≡ got x n
front_same v {x} {n} e = ap (λ u. record_of u) (sym (append-nil (take n v))) ∙ record_before v e []

-- its bytes in the recording are read as the record, with its places from its start
record Alone (s : List ℕ) (at : ℕ) (x : Record) : Type 0 where
  pub moved : Record
  pub read : record_of (bytes_in s x) ≡ got moved (length (bytes_in s x))
  pub back : x ≡ move at moved

alone : (s : List ℕ) (at : ℕ) {x : Record} {n : ℕ} → got x n ≡ record_at s at → Alone s at x
alone s at {x} {n} e = go (record_of (drop at s)) refl (e ∙ from_front)
  where
    p : Placed s at x n
    p = accepted (Placed s at) (record_placed s at) e

    size : length (take at s) ≡ at
    size = length-take-le at s (omega (arith, p.till, p.within))

    from_front : record_at s at ≡ shifted (move at) at (record_of (drop at s))
    from_front =
        let place : length (take at s) + 0 ≡ at = omega (arith, size) in
        ap (λ v. record_at v at) (sym (take-append-drop at s)) ∙ ap (record_at (take at s ++ drop at s)) (sym place) ∙ record_moved (take at s) (drop at s) 0
        ∙ ap (λ k. shifted (move k) k (record_of (drop at s))) size

    go : (y : Answer Record) → y ≡ record_of (drop at s) → got x n ≡ shifted (move at) at y → Alone s at x
    go (got z m) f g =
        let is : x ≡ move at z = cc in
        let till : n ≡ at + m = cc in
        let front : x.body.start - 6 ≡ at = omega (arith, p.start) in
        let count : 6 + x.body.count ≡ m = omega (arith, p.till, till) in
        let own : bytes_in s x ≡ take m (drop at s) = rw (front, count) in
        let q = accepted (Placed (drop at s) 0) (record_placed (drop at s) 0) f in
        record { moved = z; read = rw own (rw (length-take-le m (drop at s) q.within) (front_same (drop at s) f)); back = is }
    go (refused t) f g = zero_one (cc)

-- ── the copy's own row ──

alike_behind : (s b w : List ℕ) {xs ys : List Record} → Alike s w xs ys → Alike s (b ++ w) xs (map (move (length b)) ys)
alike_behind s b w no_more = no_more
alike_behind s b w (and_one {y = y} k p r) = and_one k (p ∙ ap (take y.body.count) (sym (drop-append-add b w y.body.start))) (alike_behind s b w r)

-- of bytes w the row is accepted, and has these records of s
record Reread (s w : List ℕ) (xs : List Record) : Type 0 where
  pub records : List Record
  pub read : row_of w ≡ got records (length w)
  pub alike : Alike s w xs records

-- the row of it alone
alone_row : (s : List ℕ) (at : ℕ) {x : Record} → (a : Alone s at x) → row_of (bytes_in s x) ≡ got (a.moved ∷ []) (length (bytes_in s x))
unfolding means row_of
alone_row s at {x} a =
    let b = bytes_in s x in
    let q = accepted (Placed b 0) (record_placed b 0) (sym a.read) in
    row_got b 0 (omega (arith, q.till)) (sym a.read) ∙ ap (means (λ zs. a.moved ∷ zs)) (row_none b (length b) (omega arith))

-- one record more in front
reread_one : (s : List ℕ) (at : ℕ) {x : Record} {n : ℕ} → got x n ≡ record_at s at → (w : List ℕ) (xs : List Record) → Reread s w xs → Reread s (bytes_in s x ++ w) (x ∷ xs)
unfolding means row_of
reread_one s at {x} {n} e w xs r =
    let a = alone s at e in
    let y = a.moved in
    let b = bytes_in s x in
    let p = accepted (Placed s at) (record_placed s at) e in
    let q = accepted (Placed b 0) (record_placed b 0) (sym a.read) in
    let both = rows_join b w (sym (alone_row s at a)) ∙ ap (λ z. means (λ zs. (y ∷ []) ++ zs) (shifted (map (move (length b))) (length b) z)) r.read in
    let starts : x.body.start - 6 ≡ at = omega (arith, p.start) in
    let room : 6 + x.body.count ≤ length (drop at s) = omega (arith, p.till, p.within, length-drop at s) in
    let counts : x.body.count ≡ y.body.count = ap (λ z. z.body.count) a.back in
    let first : y.body.start ≡ 6 = omega (arith, q.start) in
    let from : x.body.start ≡ at + 6 = p.start in
    let bodies : part_of s x.body ≡ part_of (b ++ w) y.body =
    ap (λ i. take x.body.count (drop i s)) from
    ∙ sym (ap (take x.body.count) (drop-drop 6 at s))
    ∙ body_same (drop at s) w x.body.count room
    ∙ ap (λ i. take x.body.count (drop 6 (take (6 + x.body.count) (drop i s) ++ w))) (sym starts)
    ∙ ap (λ i. take x.body.count (drop i (b ++ w))) (sym first)
    ∙ ap (λ c. take c (drop y.body.start (b ++ w))) counts in
    record {
      records = y ∷ map (move (length b)) r.records;
      read = both ∙ ap (got (y ∷ map (move (length b)) r.records)) (sym (length-append b w));
      alike = and_one {x = x} {y = y} (ap (λ z. z.kind) a.back) bodies (alike_behind s b w r.alike);
    }

rereads : (f : ℕ) (s : List ℕ) (at : ℕ) → Accepts (λ xs n. Reread s (kept_of s xs) (written_in xs)) (row_from f s at)
unfolding row_from row_of after kept_of written_in
rereads zero s at = record { records = []; read = refl; alike = no_more }
rereads (suc f) s at =
    accepts_pick _ (ltb at (length s)) _ _ (λ _. by (record_at s at) refl λ n. rereads f s n) (λ _. record { records = []; read = refl; alike = no_more })
  where
    by : (y : Answer Record) → y ≡ record_at s at → ((n : ℕ) → Accepts (λ xs m. Reread s (kept_of s xs) (written_in xs)) (row_from f s n)) →
        Accepts (λ xs n. Reread s (kept_of s xs) (written_in xs)) (after y λ x n. means (λ xs. x ∷ xs) (row_from f s n))
    by (got x n) e on = accepts_means _ _ (λ xs. x ∷ xs) (row_from f s n) (on n) λ xs m q. more xs q (is_written x.kind)
      where
        more : (xs : List Record) → Reread s (kept_of s xs) (written_in xs) → (b : Bool) → Reread s (pick b (bytes_in s x) [] ++ kept_of s xs) (pick b (x ∷ written_in xs) (written_in xs))
        more xs q true = reread_one s at e (kept_of s xs) (written_in xs) q
        more xs q false = q
    by (refused t) e on = tt

-- ── what is said of a copy, by its row ──

pub record Row (s w : List ℕ) : Type 0 where
  pub records : List Record
  pub end : ℕ
  pub row : row_of s ≡ got records end
  pub is : w ≡ kept_of s records

row-of : (s w : List ℕ) → copy_said s ≡ says w → Row s w
unfolding copy_said kept said_of means
row-of s w e = go (row_of s) refl e
  where
    go : (y : Answer (List Record)) → row_of s ≡ y → said_of (means (kept_of s) y) ≡ says w → Row s w
    go (got xs n) f g = record { records = xs; end = n; row = f; is = cc }
    go (refused t) f g = zero_one (cc)

-- the copy is accepted from end to end, and its records are those of kinds 1 and 2, in order, bodies included
pub record CopiedRow (s w : List ℕ) : Type 0 where
  pub records : List Record
  pub copies : List Record
  pub end : ℕ
  pub read : row_of s ≡ got records end
  pub reread : row_of w ≡ got copies (length w)
  pub alike : Alike s w (written_in records) copies

pub copied_row : (s w : List ℕ) → copy_said s ≡ says w → CopiedRow s w
unfolding row_of
copied_row s w e =
    let r = row-of s w e in
    let again : Reread s w (written_in r.records) = subst (λ v. Reread s v (written_in r.records)) (sym r.is) (accepted _ (rereads (length s) s 0) (sym r.row)) in
    record { records = r.records; copies = again.records; end = r.end; read = r.row; reread = again.read; alike = again.alike }

-- so a copy's copy is the copy
written_all : (xs : List Record) → AllWritten (written_in xs)
unfolding written_in
written_all [] = tt
written_all (x ∷ xs) = go (is_written x.kind) refl (written_all xs)
  where
    go : (b : Bool) → is_written x.kind ≡ b → AllWritten (written_in xs) → AllWritten (pick b (x ∷ written_in xs) (written_in xs))
    go true e all = (e, all)
    go false e all = all

alike_all : {s w : List ℕ} {xs ys : List Record} → Alike s w xs ys → AllWritten xs → AllWritten ys
alike_all no_more all = tt
alike_all (and_one k p r) all = (rw k at all.0, alike_all r all.1)

pub copied_twice : (s w : List ℕ) → copy_said s ≡ says w → (copy_said w ≡ says w) × (left_out w ≡ got none (length w))
copied_twice s w e = let r = copied_row s w e in copied_same w r.copies (length w) r.reread (alike_all r.alike (written_all r.records))

-- ── parts, end to end ──

kept_append : (s : List ℕ) (xs ys : List Record) → kept_of s (xs ++ ys) ≡ kept_of s xs ++ kept_of s ys
unfolding kept_of
kept_append s [] ys = refl
kept_append s (x ∷ xs) ys = ap (λ r. pick (is_written x.kind) (bytes_in s x) [] ++ r) (kept_append s xs ys) ∙ sym (append_assoc (pick (is_written x.kind) (bytes_in s x) []) (kept_of s xs) (kept_of s ys))

module _ (a b : List ℕ) where
  kept_front : (f at : ℕ) → Accepts (λ xs n. kept_of (a ++ b) xs ≡ kept_of a xs) (row_from f a at)
  unfolding row_from kept_of
  kept_front zero at = refl
  kept_front (suc f) at =
      accepts_pick _ (ltb at (length a)) _ _
      (λ _. accepts_after (Placed a at) _ (record_at a at) _ (record_placed a at) λ x n p. accepts_means _ _ (λ xs. x ∷ xs) (row_from f a n) (kept_front f n) λ xs m q.
      ap (λ r. pick (is_written x.kind) r [] ++ kept_of (a ++ b) xs) (own x n p) ∙ ap (λ r. pick (is_written x.kind) (bytes_in a x) [] ++ r) q)
      (λ _. refl)
    where
      own : (x : Record) (n : ℕ) → Placed a at x n → bytes_in (a ++ b) x ≡ bytes_in a x
      own x n p =
          let i = x.body.start - 6 in
          ap (take (6 + x.body.count)) (drop-append-le i a b (omega (arith, p.start, p.till, p.within)))
          ∙ take-append-le (6 + x.body.count) (drop i a) b (omega (arith, p.start, p.till, p.within, length-drop i a))

  kept_behind : (f at : ℕ) → Accepts (λ ys n. kept_of (a ++ b) (map (move (length a)) ys) ≡ kept_of b ys) (row_from f b at)
  unfolding row_from kept_of
  kept_behind zero at = refl
  kept_behind (suc f) at =
      accepts_pick _ (ltb at (length b)) _ _
      (λ _. accepts_after (Placed b at) _ (record_at b at) _ (record_placed b at) λ x n p. accepts_means _ _ (λ xs. x ∷ xs) (row_from f b n) (kept_behind f n) λ xs m q.
      ap (λ r. pick (is_written x.kind) r [] ++ kept_of (a ++ b) (map (move (length a)) xs)) (own x n p) ∙ ap (λ r. pick (is_written x.kind) (bytes_in b x) [] ++ r) q)
      (λ _. refl)
    where
      own : (x : Record) (n : ℕ) → Placed b at x n → bytes_in (a ++ b) (move (length a) x) ≡ bytes_in b x
      own x n p =
          let i : length a + x.body.start - 6 ≡ length a + (x.body.start - 6) = omega (arith, p.start) in
          ap (λ j. take (6 + x.body.count) (drop j (a ++ b))) i ∙ ap (take (6 + x.body.count)) (drop-append-add a b (x.body.start - 6))

pair_same : {i j k l : ℕ} → i ≡ j → k ≡ l → ◌≡◌ {A = Left} (record { records = i; bytes = k }) (record { records = j; bytes = l })
pair_same e f = rw (e, f)

counted_plus : (l k : Left) (kind count : ℕ) → counted (plus l k) kind count ≡ plus l (counted k kind count)
unfolding counted
counted_plus l k kind count = go (is_written kind)
  where
    go : (b : Bool) → pick b (plus l k) (record { records = l.records + k.records + 1; bytes = l.bytes + k.bytes + (6 + count) }) ≡ plus l (pick b k (record { records = k.records + 1; bytes = k.bytes + (6 + count) }))
    go true = refl
    go false =
        let i : l.records + k.records + 1 ≡ l.records + (k.records + 1) = omega arith in
        let j : l.bytes + k.bytes + (6 + count) ≡ l.bytes + (k.bytes + (6 + count)) = omega arith in
        pair_same i j

left_plus : (l k : Left) (xs : List Record) → left_by (plus l k) xs ≡ plus l (left_by k xs)
unfolding left_by
left_plus l k [] = refl
left_plus l k (x ∷ xs) = ap (λ z. left_by z xs) (counted_plus l k x.kind x.body.count) ∙ left_plus l (counted k x.kind x.body.count) xs

left_both : (a : ℕ) (l : Left) (xs ys : List Record) → left_by l (xs ++ map (move a) ys) ≡ left_by (left_by l xs) ys
unfolding left_by
left_both a l [] [] = refl
left_both a l [] (y ∷ ys) = left_both a (counted l y.kind y.body.count) [] ys
left_both a l (x ∷ xs) ys = left_both a (counted l x.kind x.body.count) xs ys

-- the records at the front, and one more
pub front_more : (s : List ℕ) (at : ℕ) (l : Left) {x : Record} {n : ℕ} → left_out (take at s) ≡ got l at → got x n ≡ record_at s at → left_out (take n s) ≡ got (counted l x.kind x.body.count) n
unfolding left_out left_by means
front_more s at l {x} {n} front e = go (row_of a) refl front
  where
    p : Placed s at x n
    p = accepted (Placed s at) (record_placed s at) e

    a : List ℕ
    a = take at s

    long : length a ≡ at
    long = length-take-le at s (omega (arith, p.till, p.within))

    b : List ℕ
    b = bytes_in s x

    size : length b ≡ 6 + x.body.count
    size = length-take-le (6 + x.body.count) (drop (x.body.start - 6) s) (omega (arith, length-drop (x.body.start - 6) s, p.start, p.till, p.within))

    split : take n s ≡ a ++ b
    split =
        let starts : x.body.start - 6 ≡ at = omega (arith, p.start) in
        let till : n ≡ at + (6 + x.body.count) = omega (arith, p.till) in
        ap (λ m. take m s) till ∙ take-add at (6 + x.body.count) s ∙ ap (λ i. a ++ take (6 + x.body.count) (drop i s)) (sym starts)

    own : Alone s at x
    own = alone s at e

    go : (y : Answer (List Record)) → row_of a ≡ y → means (left_by none) y ≡ got l at → means (left_by none) (row_of (take n s)) ≡ got (counted l x.kind x.body.count) n
    go (got xs m) f g =
        let z = own.moved in
        let is : left_by none xs ≡ l = cc in
        let end : length a + length b ≡ n = omega (arith, long, size, p.till) in
        let same : counted l z.kind z.body.count ≡ counted l x.kind x.body.count = ap (λ r. counted l r.kind r.body.count) (sym own.back) in
        ap (λ v. means (left_by none) (row_of v)) split
        ∙ ap (means (left_by none)) (rows_join a b (sym f) ∙ ap (λ r. means (λ zs. xs ++ zs) (shifted (map (move (length a))) (length a) r)) (alone_row s at own))
        ∙ ap (λ k. got k (length a + length b)) (left_both (length a) none xs (z ∷ []) ∙ ap (λ k. counted k z.kind z.body.count) is ∙ same)
        ∙ ap (got (counted l x.kind x.body.count)) end
    go (refused t) f g = zero_one (cc)

-- of a recording cut between two records, the copies of the parts end to end are its copy, and the counts add up
pub copied_parts : (a b v w : List ℕ) (l k : Left) (n m : ℕ) → copy_said a ≡ says v → left_out a ≡ got l n → copy_said b ≡ says w → left_out b ≡ got k m →
    (copy_said (a ++ b) ≡ says (v ++ w)) × (left_out (a ++ b) ≡ got (plus l k) (length a + m))
unfolding copy_said kept left_out said_of means row_of
copied_parts a b v w l k n m ea la eb lb =
    let r = row-of a v ea in
    let t = row-of b w eb in
    let join : row_of (a ++ b) ≡ got (r.records ++ map (move (length a)) t.records) (length a + t.end) =
    rows_join a b (sym r.row) ∙ ap (λ y. means (λ zs. r.records ++ zs) (shifted (map (move (length a))) (length a) y)) t.row in
    let bytes : kept_of (a ++ b) (r.records ++ map (move (length a)) t.records) ≡ v ++ w =
    kept_append (a ++ b) r.records (map (move (length a)) t.records)
    ∙ ap (λ z. z ++ kept_of (a ++ b) (map (move (length a)) t.records)) (accepted _ (kept_front a b (length a) 0) (sym r.row) ∙ sym r.is)
    ∙ ap (λ z. v ++ z) (accepted _ (kept_behind a b (length b) 0) (sym t.row) ∙ sym t.is) in
    let lefts = left-of l n r.records r.end (sym la ∙ ap (means (left_by none)) r.row) in
    let others = left-of k m t.records t.end (sym lb ∙ ap (means (left_by none)) t.row) in
    let count : left_by none (r.records ++ map (move (length a)) t.records) ≡ plus l k =
    left_both (length a) none r.records t.records ∙ ap (λ z. left_by z t.records) (sym lefts.0 ∙ plus_none l) ∙ left_plus l none t.records ∙ ap (plus l) (sym others.0) in
    let till : length a + t.end ≡ length a + m = ap (λ z. length a + z) (sym others.1) in
    (ap (λ y. said_of (means (kept_of (a ++ b)) y)) join ∙ ap says bytes, ap (means (left_by none)) join ∙ ap (λ z. got z (length a + t.end)) count ∙ ap (got (plus l k)) till)
  where
    left-of : (l : Left) (n : ℕ) (xs : List Record) (e : ℕ) → got l n ≡ got (left_by none xs) e → (l ≡ left_by none xs) × (n ≡ e)
    left-of l n xs e h = (cc, cc)

    plus_none : (l : Left) → l ≡ plus l none
    plus_none l = let i : l.records ≡ l.records + 0 = omega arith in let j : l.bytes ≡ l.bytes + 0 = omega arith in pair_same i j

-- and a refusal in the second part is the whole's, with its place moved
pub refused_parts : (a b v : List ℕ) (t : Told) → copy_said a ≡ says v → copy_said b ≡ no t → copy_said (a ++ b) ≡ no (move_told (length a) t)
unfolding copy_said kept said_of means
refused_parts a b v t ea eb =
    let r = row-of a v ea in
    ap (λ y. said_of (means (kept_of (a ++ b)) y)) (rows_join a b (sym r.row) ∙ ap (λ y. means (λ zs. r.records ++ zs) (shifted (map (move (length a))) (length a) y)) (go (row_of b) refl eb))
  where
    go : (y : Answer (List Record)) → row_of b ≡ y → said_of (means (kept_of b) y) ≡ no t → row_of b ≡ refused t
    go (got xs n) f g = zero_one (cc)
    go (refused u) f g = f ∙ ap refused (cc)
