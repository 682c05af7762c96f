-- What an older tool, with a lower limit, found of the same bytes: a record is refused with LONG, or it is what the newer tool reads. So what was accepted stays, and a row
-- that LONG does not end is the same.
-- The limit is asked once, in the body's reader, and by cases of that one test the answer is LONG or does not change; the rest is carried along.
-- Assumes nothing.
use mathlib.Core.Path.{◌≡◌, refl, ap, ◌∙◌}
use mathlib.Core.Bool.{Bool, true, false}
use mathlib.Core.Logic.{◌↔◌, ◌⊎◌, inl, inr}
use mathlib.Core.List.{List, [], ◌∷◌, ◌++◌}
use Prim.Native.Nat.{ℕ, zero, suc, ◌-◌, ◌≤◌, ◌<◌}
use native.Mathlib.Omega.{arith}
use borrow.Author.Tests.{leb-true, leb-false, le-leb, lt-leb}
use lib.Dec.{leb, ltb, eqb}
use lib.ListN.{length, take, drop, length-append, length-drop}
use lib.Seq.{length-take-le, take-append-le, take-take, drop-append-le}
use Rattle.layout.specs.Answer.{Told, Answer, got, refused, pick, after, means, bare, end_at, span_at, field_at}
use Rattle.layout.specs.Refusals.{END, TRAIL, KIND, LENGTH, SIZE, RECORD, LONG}
use Rattle.layout.proofs.laws.Make.{Spanned, there, short, spanned, span_there}
use Rattle.layout.proofs.laws.Reading.{drop_take}
use Rattle.layout.proofs.laws.Numbers.{zero_one}
use Rattle.layout.proofs.laws.Told.{end_no, bare_no}
use Rattle.wire.specs.Places.{num_at}
use Rattle.wire.specs.Container.{header_rest, header_at, container_at}
use Rattle.wire.specs.Container as C
use Rattle.wire.specs.Refused.{announced, kind_in}
use Rattle.recording.specs.Content.{Record}
use Rattle.recording.specs.Record.{limit, begins, content_at, body_at, head_at, record_at, record_of}
use Rattle.recording.specs.Row.{followed, found, records_in}
use Rattle.recording.specs.declared.Head.{Head}
use Rattle.recording.specs.Older.{body_up_to, head_up_to, record_up_to, found_up_to, records_up_to, LongAnnounced, AllRead, one_more, EndsWith, here, after_one, none}

-- ── at today's limit they are today's ──

pub record_now : (s : List ℕ) → record_up_to limit s ≡ record_of s
unfolding record_up_to record_at head_up_to head_at body_up_to body_at
record_now s = refl

found_now : (fuel : ℕ) (s : List ℕ) → found_up_to limit fuel s ≡ found fuel s
unfolding found_up_to found
found_now zero s = refl
found_now (suc fuel) s = ap (λ l. pick (ltb 0 (length s)) l []) (go (record_up_to limit s) (record_of s) (record_now s) λ n. found_now fuel (drop n s))
  where
    go : (x y : Answer Record) → x ≡ y → ((n : ℕ) → found_up_to limit fuel (drop n s) ≡ found fuel (drop n s)) → followed x (λ n. found_up_to limit fuel (drop n s)) ≡ followed y (λ n. found fuel (drop n s))
    go x (got r n) e f = rw (e, f n)
    go x (refused t) e f = rw e

pub records_now : (s : List ℕ) → records_up_to limit s ≡ records_in s
unfolding records_up_to records_in
records_now s = found_now (length s) s

-- ── LONG, or the same ──

-- of the lower limit's answer and the higher's
pub data Raised {A : Type 0} : Answer A → Answer A → Type 0 where
  was_long : {y : Answer A} → Raised (refused (bare LONG)) y
  same : {x : Answer A} → Raised x x

raised_after : {A B : Type 0} {x y : Answer A} (k : A → ℕ → Answer B) → Raised x y → Raised (after x k) (after y k)
unfolding after
raised_after k was_long = was_long
raised_after k same = same

raised_then : {A B : Type 0} (x : Answer A) {k l : A → ℕ → Answer B} → ((a : A) (n : ℕ) → Raised (k a n) (l a n)) → Raised (after x k) (after x l)
unfolding after
raised_then (got a n) f = f a n
raised_then (refused t) f = same

raised_pick : {A : Type 0} (b : Bool) {x y : Answer A} (z : Answer A) → Raised x y → Raised (pick b x z) (pick b y z)
raised_pick true z r = r
raised_pick false z r = same

raised_test : {A : Type 0} (lower higher : Bool) (x : Answer A) → (lower ≡ true → higher ≡ true) → Raised (pick lower x (refused (bare LONG))) (pick higher x (refused (bare LONG)))
raised_test false higher x f = was_long
raised_test true higher x f = rw (f refl) same

module _ (a b : ℕ) (h : a ≤ b) where
  raised_body : (len kind : ℕ) (s : List ℕ) (start : ℕ) → Raised (body_up_to a len kind s start) (body_up_to b len kind s start)
  unfolding body_up_to
  raised_body len kind s start =
      raised_pick (begins len kind) _ (raised_test (leb (len - 6) a) (leb (len - 6) b) _ λ e. le-leb (len - 6) b (omega (arith, h, leb-true (len - 6) a e)))

  pub raised : (s : List ℕ) → Raised (record_up_to a s) (record_up_to b s)
  unfolding record_up_to head_up_to
  raised s = raised_after _ (raised_then (num_at 4 s 0) λ len n. raised_then (num_at 2 s n) λ kind start. raised_body len kind s start)

  -- what was accepted stays
  pub accepted_stays : (s : List ℕ) {x : Record} {n : ℕ} → record_up_to a s ≡ got x n → record_up_to b s ≡ got x n
  accepted_stays s e = go (raised s) e
    where
      go : {x y : Answer Record} {r : Record} {n : ℕ} → Raised x y → x ≡ got r n → y ≡ got r n
      go was_long e = zero_one (cc)
      go same e = e

  -- ── rows ──

  -- the lower limit's row ends with LONG, or it is the higher's
  abbrev Rows : List (Answer Record) → List (Answer Record) → Type 0
  Rows xs ys = EndsWith (bare LONG) xs ⊎ (ys ≡ xs)

  rows_followed : {x y : Answer Record} (f g : ℕ → List (Answer Record)) → Raised x y → ((n : ℕ) → Rows (f n) (g n)) → Rows (followed x f) (followed y g)
  rows_followed f g was_long r = inl here
  rows_followed f g (same {x = got x n}) r = elim (r n) [ inl e ↦ inl (after_one e) | inr e ↦ inr (ap (λ l. got x n ∷ l) e) ]
  rows_followed f g (same {x = refused t}) r = inr refl

  rows_found : (fuel : ℕ) (s : List ℕ) → Rows (found_up_to a fuel s) (found_up_to b fuel s)
  unfolding found_up_to
  rows_found zero s = inr refl
  rows_found (suc fuel) s = go (ltb 0 (length s)) (rows_followed _ _ (raised s) λ n. rows_found fuel (drop n s))
    where
      go : (c : Bool) {xs ys : List (Answer Record)} → Rows xs ys → Rows (pick c xs []) (pick c ys [])
      go true r = r
      go false r = inr refl

  -- a row that LONG does not end is the same
  pub row_stays : (s : List ℕ) → (EndsWith (bare LONG) (records_up_to a s) → ⊥) → records_up_to b s ≡ records_up_to a s
  unfolding records_up_to
  row_stays s f = elim (rows_found (length s) s) [ inl e ↦ absurd (f e) | inr e ↦ e ]

-- ── which rows LONG does not end ──

-- one that was read to its end
pub read_not_long : {row : List (Answer Record)} {t : Told} → AllRead row → EndsWith t row → ⊥
read_not_long none e = elim e [ ]
read_not_long (one_more h) (after_one e) = read_not_long h e

-- one that another refusal ends
pub other_not_long : {t u : Told} {row : List (Answer Record)} → EndsWith t row → (t ≡ u → ⊥) → EndsWith u row → ⊥
other_not_long here f here = f refl
other_not_long here f (after_one g) = elim g [ ]
other_not_long (after_one e) f here = elim e [ ]
other_not_long (after_one e) f (after_one g) = other_not_long e f g

-- ── LONG exactly ──

-- every refusal's number is below
data Under {A : Type 0} (most : ℕ) : Answer A → Type 0 where
  read : {a : A} {n : ℕ} → Under most (got a n)
  below : {t : Told} → t.no < most → Under most (refused t)

module _ {most : ℕ} (some : END < most) where
  under_bare : {A : Type 0} (n : ℕ) → n < most → Under {A = A} most (refused (bare n))
  under_bare n h = below {t = bare n} (rw (bare_no n) h)

  under_pick : {A : Type 0} (b : Bool) {x y : Answer A} → Under most x → Under most y → Under most (pick b x y)
  under_pick true h k = h
  under_pick false h k = k

  under_after : {A B : Type 0} {x : Answer A} {k : A → ℕ → Answer B} → Under most x → ((a : A) (n : ℕ) → Under most (k a n)) → Under most (after x k)
  unfolding after
  under_after (read {a} {n}) f = f a n
  under_after (below h) f = below h

  under_means : {A B : Type 0} (f : A → B) {x : Answer A} → Under most x → Under most (means f x)
  unfolding means
  under_means f read = read
  under_means f (below h) = below h

  under_span : (field n : ℕ) (s : List ℕ) (at : ℕ) → Under most (span_at field n s at)
  unfolding span_at
  under_span field n s at = under_pick (leb n (length s - at)) read (below {t = end_at field} (rw (end_no field) some))

  under_number : (w : ℕ) (s : List ℕ) (at : ℕ) → Under most (num_at w s at)
  unfolding field_at
  under_number w s at = under_after (under_span at w s at) λ _ next. read

  under_content : SIZE < most → (kind : ℕ) (s : List ℕ) (at : ℕ) → Under most (content_at kind s at)
  unfolding content_at container_at header_at header_rest
  under_content size kind s at =
      under_pick (eqb kind 3) read
      (under_after
      (under_after
      (under_after (under_number 4 s at) λ len a.
      under_after (under_number 2 s a) λ k b.
      under_pick (C.is_kind k)
      (under_after (under_number 2 s b) λ code c. under_after (under_number 4 s c) λ tid next. under_pick (leb 12 len) read (under_bare LENGTH (omega arith)))
      (under_bare KIND (omega arith)))
      λ h start. under_pick (leb h.payload_len (length s - start)) read (under_bare SIZE size))
      λ x n. under_pick (eqb n (length s)) read (under_bare TRAIL (omega arith)))

not_long : {A : Type 0} {x : Answer A} → Under LONG x → x ≡ refused (bare LONG) → ⊥
not_long read e = zero_one (cc)
not_long (below {t} h) e = let same : t ≡ bare LONG = cc in let n : t.no ≡ LONG = ap (λ (u : Told). u.no) same ∙ bare_no LONG in omega arith

-- LONG for this reason, or not
data Longs {A : Type 0} (P : Type 0) : Answer A → Type 0 where
  so : P → Longs P (refused (bare LONG))
  not_so : {x : Answer A} → Under LONG x → Longs P x

longs_after : {A B : Type 0} {P : Type 0} {x : Answer A} {k : A → ℕ → Answer B} → Longs P x → ((a : A) (n : ℕ) → Longs P (k a n)) → Longs P (after x k)
unfolding after
longs_after (so p) f = so p
longs_after (not_so (read {a} {n})) f = f a n
longs_after (not_so (below h)) f = not_so (below h)

module _ (most : ℕ) (s : List ℕ) where
  few : END < LONG
  few = omega arith

  longs_body : 6 ≤ length s → Longs (LongAnnounced most s) (body_up_to most (announced s) (kind_in s) s 6)
  unfolding body_up_to
  longs_body six = go (begins (announced s) (kind_in s)) refl (leb (announced s - 6) most) refl
    where
      go : (b : Bool) → begins (announced s) (kind_in s) ≡ b → (c : Bool) → leb (announced s - 6) most ≡ c → Longs {A = Head} (LongAnnounced most s)
          (pick b (pick c (means (λ _. record { kind = kind_in s; body = record { start = 6; count = announced s - 6 } }) (span_at 6 (announced s - 6) s 6)) (refused (bare LONG))) (refused (bare RECORD)))
      go true e true f = not_so (under_means few _ (under_span few 6 (announced s - 6) s 6))
      go true e false f = so (record { six = six; right = e; over = leb-false (announced s - 6) most f })
      go false e c f = not_so (under_bare few RECORD (omega arith))

  longs_head : Longs (LongAnnounced most s) (head_up_to most s)
  unfolding head_up_to field_at after
  longs_head = first (span_at 0 4 s 0) (spanned 0 4 s 0)
    where
      second : 4 ≤ length s → (x : Answer (Unit {0})) → Spanned 4 2 s 4 x →
          Longs (LongAnnounced most s) (after (after x λ _ next. got (kind_in s) next) λ kind start. body_up_to most (announced s) kind s start)
      second four (got u n) (there i) = longs_body (omega arith)
      second four (refused t) (short i) = not_so (below {t = end_at 4} (rw (end_no 4) few))

      first : (x : Answer (Unit {0})) → Spanned 0 4 s 0 x →
          Longs (LongAnnounced most s) (after (after x λ _ next. got (announced s) next) λ len a. after (num_at 2 s a) λ kind start. body_up_to most len kind s start)
      first (got u n) (there i) = second (omega arith) (span_at 4 2 s 4) (spanned 4 2 s 4)
      first (refused t) (short i) = not_so (below {t = end_at 0} (rw (end_no 0) few))

  longs : Longs (LongAnnounced most s) (record_up_to most s)
  unfolding record_up_to
  longs = longs_after longs_head λ h end. not_so (under_means few _ (under_content few (omega arith) h.kind (take end s) h.body.start))

  pub long_exactly : (record_up_to most s ≡ refused (bare LONG)) ↔ LongAnnounced most s
  unfolding record_up_to head_up_to body_up_to field_at after
  long_exactly = (only_so longs, given)
    where
      only_so : {x : Answer Record} → Longs (LongAnnounced most s) x → x ≡ refused (bare LONG) → LongAnnounced most s
      only_so (so p) e = p
      only_so (not_so u) e = absurd (not_long u e)

      given : LongAnnounced most s → record_up_to most s ≡ refused (bare LONG)
      given p = rw (span_there 0 4 s 0 (omega (arith, p.six)), span_there 4 2 s 4 (omega (arith, p.six)), p.right, lt-leb (announced s - 6) most p.over)

  -- by its six bytes alone, whatever follows them
  pub long_by_six : (t : List ℕ) → LongAnnounced most s → LongAnnounced most (take 6 s ++ t)
  long_by_six t p =
      let size : length (take 6 s) ≡ 6 = length-take-le 6 s p.six in
      let len : take 4 (take 6 s ++ t) ≡ take 4 s = take-append-le 4 (take 6 s) t (omega arith) ∙ take-take 4 6 s (omega arith) in
      let rest : drop 4 (take 6 s ++ t) ≡ drop 4 (take 6 s) ++ t = drop-append-le 4 (take 6 s) t (omega arith) in
      let two : drop 4 (take 6 s) ≡ take 2 (drop 4 s) = drop_take 4 2 s in
      let kind : take 2 (drop 4 (take 6 s ++ t)) ≡ take 2 (drop 4 s) = ap (take 2) rest ∙ take-append-le 2 (drop 4 (take 6 s)) t (omega (arith, length-drop 4 (take 6 s))) ∙ ap (take 2) two ∙ take-take 2 2 (drop 4 s) (omega arith) in
      record { six = omega (arith, length-append (take 6 s) t); right = rw (len, kind) p.right; over = rw len p.over }
