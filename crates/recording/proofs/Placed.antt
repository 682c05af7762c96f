-- Laws of records at places: the row of them step by step, and what its steps come to for a copy.
-- Assumes nothing.
use mathlib.Core.Path.{◌≡◌, refl, sym, ap, subst, ◌∙◌}
use mathlib.Core.Bool.{Bool, true, false}
use mathlib.Core.List.{List, [], ◌∷◌, ◌++◌}
use Prim.Native.Nat.{ℕ, zero, suc, ◌+◌, ◌-◌, ◌≤◌, ◌<◌}
use native.Mathlib.Omega.{arith}
use borrow.Author.Tests.{lt-ltb, le-ltb, ltb-false}
use lib.Dec.{ltb}
use lib.ListN.{length, take, drop, length-append, length-drop, take-append-drop, drop_of_length-le}
use lib.Seq.{take-length, length-take-le, drop-drop}
use Rattle.layout.specs.Answer.{Told, Answer, got, refused, bare, pick, after, means}
use Rattle.layout.specs.Refusals.{ROOM}
use Rattle.layout.specs.Written.{says, no, said_of, answer_of, Wrote, took, spelling, Put, roomed}
use Rattle.layout.proofs.laws.Accepted.{Accepts, accepted, accepts_all, accepts_means, accepts_after, accepts_pick}
use Rattle.layout.proofs.laws.Reading.{stop, means_means}
use Rattle.layout.proofs.laws.Numbers.{zero_one}
use Rattle.layout.proofs.laws.Tidied.{took_more}
use Rattle.layout.proofs.laws.Writing.{Owes, start, end, roomy, long, in_room, nothing, refusal, no_room, done}
use Rattle.layout.proofs.laws.Writing.{part as parted}
use Rattle.recording.specs.Content.{Record}
use Rattle.recording.specs.Record.{is_written, content_at, head_at, record_at}
use Rattle.recording.specs.Row.{row_from, row_of, onward, whole_from}
use Rattle.recording.specs.Copied.{bytes_in, kept_of, kept, AllWritten, copy_said, none, counted, left_by, left_out, copy_of, Copies}
use Rattle.recording.specs.declared.Head.{Head}
use Rattle.recording.specs.declared.copy.Left.{Left}
use Rattle.recording.proofs.laws.Rowed.{head_placed, content_ends, Placed, record_placed, after_same}

-- ── a record's head ──

abbrev head_from : Record → Head
head_from x = record { kind = x.kind; body = x.body }

pub record_head : (s : List ℕ) (at : ℕ) → Accepts (λ x n. got (head_from x) n ≡ head_at s at) (record_at s at)
unfolding record_at after
record_head s at = go (head_at s at) refl (head_placed s at)
  where
    go : (y : Answer Head) → head_at s at ≡ y → Accepts (λ h n. (h.body.start ≡ at + 6) × (n ≡ at + 6 + h.body.count) × (n ≤ length s)) y →
        Accepts (λ x n. got (head_from x) n ≡ head_at s at) (after y λ h end. means (λ c. record { kind = h.kind; body = h.body; content = c }) (content_at h.kind (take end s) h.body.start))
    go (got h end) e p =
        accepts_means _ _ _ (content_at h.kind (take end s) h.body.start) (content_ends h.kind (take end s) h.body.start) λ c n m.
        ap (got h) (m ∙ length-take-le end s p.2) ∙ sym e
    go (refused t) e p = tt

-- ── a row, step by step ──

row_from_none : (f : ℕ) (s : List ℕ) (at : ℕ) → length s ≤ at → row_from f s at ≡ got [] at
unfolding row_from
row_from_none zero s at h = refl
row_from_none (suc f) s at h = rw (le-ltb at (length s) h)

pub row_enough : (f g : ℕ) (s : List ℕ) (at : ℕ) → length s - at ≤ f → length s - at ≤ g → row_from f s at ≡ row_from g s at
unfolding row_from
row_enough zero g s at h k = sym (row_from_none g s at (omega arith))
row_enough (suc f) zero s at h k = row_from_none (suc f) s at (omega arith)
row_enough (suc f) (suc g) s at h k =
    ap (λ l. pick (ltb at (length s)) l (got [] at))
    (after_same (record_at s at) _ _ (accepts_all (Placed s at) _ (record_at s at) (record_placed s at) λ x n p.
    ap (means (λ xs. x ∷ xs)) (row_enough f g s n (omega (arith, p.till)) (omega (arith, p.till)))))

-- the records from a place on
abbrev pub rest : List ℕ → ℕ → Answer (List Record)
rest s at = row_from (length s) s at

pub row_none : (s : List ℕ) (at : ℕ) → length s ≤ at → rest s at ≡ got [] at
row_none s at h = row_from_none (length s) s at h

abbrev joined : List ℕ → Record → ℕ → Answer (List Record)
joined s x n = means (λ xs. x ∷ xs) (rest s n)

row_step : (s : List ℕ) (at : ℕ) → at < length s → rest s at ≡ after (record_at s at) (joined s)
unfolding row_from
row_step s at h =
    row_enough (length s) (suc (length s)) s at (omega arith) (omega arith)
    ∙ ap (λ b. pick b (after (record_at s at) (joined s)) (got [] at)) (lt-ltb at (length s) h)

pub row_got : (s : List ℕ) (at : ℕ) → at < length s → {x : Record} {n : ℕ} → got x n ≡ record_at s at → rest s at ≡ joined s x n
unfolding after
row_got s at h {x} {n} e = row_step s at h ∙ ap (λ y. after y (joined s)) (sym e)

pub row_refused : (s : List ℕ) (at : ℕ) → at < length s → {t : Told} → refused t ≡ record_at s at → rest s at ≡ refused t
unfolding after
row_refused s at h {t} e = row_step s at h ∙ ap (λ y. after y (joined s)) (sym e)

-- ── up to where records stand that are accepted ──

whole_from_none : (f : ℕ) (s : List ℕ) (at : ℕ) → length s ≤ at → whole_from f s at ≡ at
unfolding whole_from
whole_from_none zero s at h = refl
whole_from_none (suc f) s at h = rw (le-ltb at (length s) h)

onward_same : (at : ℕ) (x : Answer Record) (f g : ℕ → ℕ) → Accepts (λ _ n. f n ≡ g n) x → onward at x f ≡ onward at x g
onward_same at (got x n) f g e = e
onward_same at (refused t) f g e = refl

pub whole_enough : (f g : ℕ) (s : List ℕ) (at : ℕ) → length s - at ≤ f → length s - at ≤ g → whole_from f s at ≡ whole_from g s at
unfolding whole_from
whole_enough zero g s at h k = sym (whole_from_none g s at (omega arith))
whole_enough (suc f) zero s at h k = whole_from_none (suc f) s at (omega arith)
whole_enough (suc f) (suc g) s at h k =
    ap (λ l. pick (ltb at (length s)) l at)
    (onward_same at (record_at s at) _ _ (accepts_all (Placed s at) _ (record_at s at) (record_placed s at) λ x n p. whole_enough f g s n (omega (arith, p.till)) (omega (arith, p.till))))

abbrev pub whole_rest : List ℕ → ℕ → ℕ
whole_rest s at = whole_from (length s) s at

pub whole_none : (s : List ℕ) (at : ℕ) → length s ≤ at → whole_rest s at ≡ at
whole_none s at h = whole_from_none (length s) s at h

whole_step : (s : List ℕ) (at : ℕ) → at < length s → whole_rest s at ≡ onward at (record_at s at) (whole_rest s)
unfolding whole_from
whole_step s at h =
    whole_enough (length s) (suc (length s)) s at (omega arith) (omega arith)
    ∙ ap (λ b. pick b (onward at (record_at s at) (whole_rest s)) at) (lt-ltb at (length s) h)

pub whole_got : (s : List ℕ) (at : ℕ) → at < length s → {x : Record} {n : ℕ} → got x n ≡ record_at s at → whole_rest s at ≡ whole_rest s n
whole_got s at h e = whole_step s at h ∙ ap (λ y. onward at y (whole_rest s)) (sym e)

pub whole_refused : (s : List ℕ) (at : ℕ) → at < length s → {t : Told} → refused t ≡ record_at s at → whole_rest s at ≡ at
whole_refused s at h e = whole_step s at h ∙ ap (λ y. onward at y (whole_rest s)) (sym e)

-- ── what is left out, record by record ──

pub left_turn : (s : List ℕ) (at : ℕ) (l : Left) → at < length s → {x : Record} {n : ℕ} → got x n ≡ record_at s at →
    means (left_by l) (rest s at) ≡ means (left_by (counted l x.kind x.body.count)) (rest s n)
unfolding left_by
left_turn s at l h {x} {n} e = ap (means (left_by l)) (row_got s at h e) ∙ means_means (left_by l) (λ xs. x ∷ xs) (rest s n)

pub left_refused : (s : List ℕ) (at : ℕ) (l : Left) → at < length s → {t : Told} → refused t ≡ record_at s at → means (left_by l) (rest s at) ≡ refused t
unfolding means
left_refused s at l h e = ap (means (left_by l)) (row_refused s at h e)

pub left_end : (s : List ℕ) (at : ℕ) (l : Left) → length s ≤ at → means (left_by l) (rest s at) ≡ got l at
unfolding means left_by
left_end s at l h = ap (means (left_by l)) (row_none s at h)

pub counted_least : (l : Left) (kind count at : ℕ) → l.records ≤ l.bytes → l.bytes ≤ at → ((counted l kind count).records ≤ (counted l kind count).bytes) × ((counted l kind count).bytes ≤ at + 6 + count)
unfolding counted
counted_least l kind count at h k = go (is_written kind)
  where
    go : (b : Bool) → ((pick b l (record { records = l.records + 1; bytes = l.bytes + (6 + count) })).records ≤ (pick b l (record { records = l.records + 1; bytes = l.bytes + (6 + count) })).bytes)
        × ((pick b l (record { records = l.records + 1; bytes = l.bytes + (6 + count) })).bytes ≤ at + 6 + count)
    go true = (h, omega arith)
    go false = (omega arith, omega arith)

-- ── what is copied, record by record ──

-- of the record at a place, of that kind and with so many bytes behind its six
abbrev pub part : List ℕ → ℕ → ℕ → ℕ → List ℕ
part s kind at count = pick (is_written kind) (take (6 + count) (drop at s)) []

abbrev pub kept_from : List ℕ → ℕ → Answer (List ℕ)
kept_from s at = means (kept_of s) (rest s at)

kept_got : (s : List ℕ) (at : ℕ) → at < length s → {x : Record} {n : ℕ} → got x n ≡ record_at s at → kept_from s at ≡ means (λ ws. part s x.kind at x.body.count ++ ws) (kept_from s n)
unfolding kept_of
kept_got s at h {x} {n} e =
    let p = accepted (Placed s at) (record_placed s at) e in
    let front : x.body.start - 6 ≡ at = omega (arith, p.start) in
    ap (means (kept_of s)) (row_got s at h e)
    ∙ means_means (kept_of s) (λ xs. x ∷ xs) (rest s n)
    ∙ ap (λ a. means (λ xs. pick (is_written x.kind) (take (6 + x.body.count) (drop a s)) [] ++ kept_of s xs) (rest s n)) front
    ∙ sym (means_means (λ ws. part s x.kind at x.body.count ++ ws) (kept_of s) (rest s n))

kept_refused : (s : List ℕ) (at : ℕ) → at < length s → {t : Told} → refused t ≡ record_at s at → kept_from s at ≡ refused t
unfolding means
kept_refused s at h e = ap (means (kept_of s)) (row_refused s at h e)

not_took : {x : Answer (List ℕ)} {t : Told} → x ≡ refused t → took x ≡ true → ⊥
not_took {x} {t} e h = let f : false ≡ true = rw e at h in zero_one (cc)

-- by the head alone, where the whole row is accepted
kept_turn : (s : List ℕ) (at : ℕ) → at < length s → took (kept_from s at) ≡ true → {h : Head} {n : ℕ} → got h n ≡ head_at s at →
    kept_from s at ≡ means (λ ws. part s h.kind at h.body.count ++ ws) (kept_from s n)
kept_turn s at within all {h} {n} e = go (record_at s at) refl (record_head s at)
  where
    P : Head → ℕ → Type 0
    P f m = kept_from s at ≡ means (λ ws. part s f.kind at f.body.count ++ ws) (kept_from s m)

    go : (y : Answer Record) → y ≡ record_at s at → Accepts (λ x m. got (head_from x) m ≡ head_at s at) y → kept_from s at ≡ means (λ ws. part s h.kind at h.body.count ++ ws) (kept_from s n)
    go (got x m) k same = accepted P (subst (Accepts P) same (kept_got s at within k)) e
    go (refused t) k same = absurd (not_took (kept_refused s at within k) all)

pub kept_stops : (s : List ℕ) (at : ℕ) → at < length s → took (kept_from s at) ≡ true → {t : Told} → refused t ≡ head_at s at → ⊥
unfolding record_at after
kept_stops s at within all {t} e = not_took (kept_refused s at within (ap (λ y. after y λ h end. means (λ c. record { kind = h.kind; body = h.body; content = c }) (content_at h.kind (take end s) h.body.start)) e)) all

kept_none : (s : List ℕ) (at : ℕ) → length s ≤ at → spelling (kept_from s at) ≡ []
unfolding means kept_of
kept_none s at h = ap (λ y. spelling (means (kept_of s) y)) (row_none s at h)

-- ── the writer's loop ──

pub nothing_put : {out : List ℕ} {o : ℕ} → Put out o (roomed out o []) out o
nothing_put {out} {o} = rw (in_room out o [] (omega arith)) nothing

-- what is still to be written from a place on is written over what stands, and has room
pub record Going (s out₀ out : List ℕ) (at o : ℕ) : Type 0 where
  pub owes : Owes out o (spelling (kept_from s at)) out₀ 0 (spelling (kept s))
  pub all : took (kept_from s at) ≡ true
  pub room : length (spelling (kept_from s at)) ≤ length out - o
  pub within : at ≤ length s

pub going : (s out : List ℕ) → took (kept s) ≡ true → length (spelling (kept s)) ≤ length out → Going s out out 0 0
unfolding kept row_of
going s out all room = record { owes = start; all = all; room = omega (arith, room); within = omega arith }

pub going_on : {s out₀ out new : List ℕ} {at o next n : ℕ} {h : Head} → Going s out₀ out at o → at < length s → got h n ≡ head_at s at →
    Put out o (roomed out o (part s h.kind at h.body.count)) new next → Going s out₀ new n next
going_on {s} {out₀} {out} {new} {at} {o} {next} {n} {h} g within e wrote =
    let turn = kept_turn s at within g.all e in
    let bs = part s h.kind at h.body.count in
    let both = took_more bs (kept_from s n) (rw turn at g.all) in
    let split : spelling (kept_from s at) ≡ bs ++ spelling (kept_from s n) = ap spelling turn ∙ both.1 in
    let size : length (spelling (kept_from s at)) ≡ length bs + length (spelling (kept_from s n)) = ap length split ∙ length-append bs (spelling (kept_from s n)) in
    let did : Put out o bs new next = roomy bs wrote (omega (arith, g.room, size)) in
    record {
      owes = parted split g.owes did;
      all = both.0;
      room = omega (arith, g.room, size, did.place, long did);
      within = (accepted _ (head_placed s at) e).2;
    }

pub going_out : {s out₀ out : List ℕ} {at o : ℕ} → Going s out₀ out at o → length s ≤ at → Put out₀ 0 (spelling (kept s)) out o
going_out {s} {out₀} {out} {at} {o} g h = end (kept_none s at h) g.owes

-- ── the sum: bytes copied and bytes left out are all bytes ──

bytes_long : (s : List ℕ) (at : ℕ) (x : Record) (n : ℕ) → Placed s at x n → length (bytes_in s x) ≡ 6 + x.body.count
bytes_long s at x n p = length-take-le (6 + x.body.count) (drop (x.body.start - 6) s) (omega (arith, length-drop (x.body.start - 6) s, p.start, p.till, p.within))

Sums : List ℕ → ℕ → Left → List Record → ℕ → Type 0
Sums s at l xs n = (n ≤ length s) × ((left_by l xs).bytes + length (kept_of s xs) + at ≡ l.bytes + n)

sums : (f : ℕ) (s : List ℕ) (at : ℕ) (l : Left) → at ≤ length s → Accepts (Sums s at l) (row_from f s at)
unfolding row_from Sums left_by kept_of counted
sums zero s at l h = (h, omega arith)
sums (suc f) s at l h =
    accepts_pick _ (ltb at (length s)) _ _
    (λ _. accepts_after (Placed s at) _ (record_at s at) _ (record_placed s at) λ x n p.
    accepts_means _ _ _ (row_from f s n) (sums f s n (counted l x.kind x.body.count) p.within) λ xs m q. (q.0, step x n p xs m (is_written x.kind) q.1))
    (λ _. (h, omega arith))
  where
    step : (x : Record) (n : ℕ) → Placed s at x n → (xs : List Record) (m : ℕ) (b : Bool) →
        (left_by (pick b l (record { records = l.records + 1; bytes = l.bytes + (6 + x.body.count) })) xs).bytes + length (kept_of s xs) + n ≡ (pick b l (record { records = l.records + 1; bytes = l.bytes + (6 + x.body.count) })).bytes + m →
        (left_by (pick b l (record { records = l.records + 1; bytes = l.bytes + (6 + x.body.count) })) xs).bytes + length (pick b (bytes_in s x) [] ++ kept_of s xs) + at ≡ l.bytes + m
    step x n p xs m true e = omega (arith, p.till, bytes_long s at x n p, length-append (bytes_in s x) (kept_of s xs))
    step x n p xs m false e = omega (arith, p.till)

-- a row that has fuel ends with the bytes
pub row_ends : (f : ℕ) (s : List ℕ) (at : ℕ) → at ≤ length s → length s - at ≤ f → Accepts (λ xs n. n ≡ length s) (row_from f s at)
unfolding row_from
row_ends zero s at h k = omega arith
row_ends (suc f) s at h k =
    accepts_pick _ (ltb at (length s)) _ _
    (λ _. accepts_after (Placed s at) _ (record_at s at) _ (record_placed s at) λ x n p. accepts_means _ _ _ (row_from f s n) (row_ends f s n p.within (omega (arith, p.till))) λ xs m q. q)
    (λ e. let k : length s ≤ at = ltb-false at (length s) e in omega arith)

-- so where it is accepted, that is where it ends
pub left_ends : (s : List ℕ) → Accepts (λ _ n. n ≡ length s) (left_out s)
unfolding left_out row_of
left_ends s = accepts_means _ _ _ (rest s 0) (row_ends (length s) s 0 (omega arith) (omega arith)) λ _ _ e. e

-- of the whole recording: what is left out, and what is copied, make its length
pub copied_adds : (s : List ℕ) → Accepts (λ l n. (l.bytes + length (spelling (kept s)) ≡ length s) × (took (kept s) ≡ true)) (left_out s)
unfolding left_out kept row_of means Sums
copied_adds s = go (rest s 0) (sums (length s) s 0 (record { records = 0; bytes = 0 }) (omega arith)) (row_ends (length s) s 0 (omega arith) (omega arith))
  where
    go : (y : Answer (List Record)) → Accepts (Sums s 0 (record { records = 0; bytes = 0 })) y → Accepts (λ xs n. n ≡ length s) y →
        Accepts (λ l n. (l.bytes + length (spelling (means (kept_of s) y)) ≡ length s) × (took (means (kept_of s) y) ≡ true)) (means (left_by (record { records = 0; bytes = 0 })) y)
    go (got xs n) p e = (omega (arith, p.1, e), refl)
    go (refused t) p e = tt

-- ── a recording without notes is copied as it is ──

pub same_kept : (f : ℕ) (s : List ℕ) (at : ℕ) → at ≤ length s → length s - at ≤ f → Accepts (λ xs n. AllWritten xs → kept_of s xs ≡ drop at s) (row_from f s at)
unfolding row_from kept_of
same_kept zero s at h k = λ _. sym (drop_of_length-le s {i = at} (omega arith))
same_kept (suc f) s at h k =
    accepts_pick _ (ltb at (length s)) _ _
    (λ _. accepts_after (Placed s at) _ (record_at s at) _ (record_placed s at) λ x n p.
    accepts_means _ _ _ (row_from f s n) (same_kept f s n p.within (omega (arith, p.till))) λ xs m q. λ all. step x n p xs all.0 (q all.1))
    (λ e _. let k : length s ≤ at = ltb-false at (length s) e in sym (drop_of_length-le s k))
  where
    step : (x : Record) (n : ℕ) → Placed s at x n → (xs : List Record) → is_written x.kind ≡ true → kept_of s xs ≡ drop n s → pick (is_written x.kind) (bytes_in s x) [] ++ kept_of s xs ≡ drop at s
    step x n p xs w e =
        let front : x.body.start - 6 ≡ at = omega (arith, p.start) in
        let next : n ≡ at + (6 + x.body.count) = omega (arith, p.till) in
        rw (w, e, front, next) (ap (λ r. take (6 + x.body.count) (drop at s) ++ r) (sym (drop-drop (6 + x.body.count) at s)) ∙ take-append-drop (6 + x.body.count) (drop at s))

-- a note more
abbrev noted : Left → ℕ → Left
noted l count = record { records = l.records + 1; bytes = l.bytes + (6 + count) }

left_grows : (l : Left) (xs : List Record) → l.bytes ≤ (left_by l xs).bytes
unfolding left_by counted
left_grows l [] = omega arith
left_grows l (x ∷ xs) = go (is_written x.kind) (left_grows l xs) (left_grows (noted l x.body.count) xs)
  where
    go : (b : Bool) → l.bytes ≤ (left_by l xs).bytes → l.bytes + (6 + x.body.count) ≤ (left_by (noted l x.body.count) xs).bytes → l.bytes ≤ (left_by (pick b l (noted l x.body.count)) xs).bytes
    go true h k = h
    go false h k = omega (arith, k)

all_written : (l : Left) (xs : List Record) → (left_by l xs).bytes ≤ l.bytes → AllWritten xs
unfolding left_by counted
all_written l [] h = tt
all_written l (x ∷ xs) h = go (is_written x.kind) refl (all_written l xs) h
  where
    go : (b : Bool) → is_written x.kind ≡ b → ((left_by l xs).bytes ≤ l.bytes → AllWritten xs) → (left_by (pick b l (noted l x.body.count)) xs).bytes ≤ l.bytes →
        (is_written x.kind ≡ true) × AllWritten xs
    go true e more h = (e, more h)
    go false e more h = absurd (omega (arith, left_grows (noted l x.body.count) xs))

-- nothing is left out
pub kept_all : (s : List ℕ) → Accepts (λ l n. l.bytes ≡ 0 → spelling (kept s) ≡ s) (left_out s)
unfolding left_out kept row_of means
kept_all s = go (rest s 0) (same_kept (length s) s 0 (omega arith) (omega arith))
  where
    go : (y : Answer (List Record)) → Accepts (λ xs n. AllWritten xs → kept_of s xs ≡ s) y → Accepts (λ l n. l.bytes ≡ 0 → spelling (means (kept_of s) y) ≡ s) (means (left_by none) y)
    go (got xs n) p = λ z. p (all_written none xs (omega (arith, z)))
    go (refused t) p = tt

-- ── the copy's answers ──

said_took : (y : Answer (List ℕ)) → took y ≡ true → said_of y ≡ says (spelling y)
unfolding said_of
said_took (got w n) e = refl
said_took (refused t) e = zero_one (cc)

-- what was left out is told where the copy was written
copies_so : (s : List ℕ) {old new : List ℕ} {a : Answer (Unit {0})} {l : Left} {n : ℕ} → got l n ≡ left_out s → Wrote (copy_said s) old a new → Copies s old (means (λ _. l) a) new
unfolding copy_of after
copies_so s {old} {new} {a} {l} {n} e w = record {
  answers = ap (means (λ _. l)) w.answers ∙ ap (λ y. after y λ k _. means (λ _. k) (answer_of (copy_said s) old)) e;
  leaves = w.leaves;
}

module _ (s out : List ℕ) where
  pub said : {l : Left} {n : ℕ} → got l n ≡ left_out s → copy_said s ≡ says (spelling (kept s))
  unfolding copy_said
  said e = said_took (kept s) (accepted _ (copied_adds s) e).1

  pub copies_short : {l : Left} {n : ℕ} {t : Told} → got l n ≡ left_out s → length out < length s - l.bytes → t ≡ bare ROOM → Copies s out (refused t) out
  unfolding means
  copies_short e h r = copies_so s e (no_room (said e) (omega (arith, (accepted _ (copied_adds s) e).0)) r)

  pub copies_done : {l : Left} {n m : ℕ} {new : List ℕ} → got l n ≡ left_out s → length s - l.bytes ≤ length out → Put out 0 (spelling (kept s)) new m → Copies s out (got l m) new
  unfolding means
  copies_done e h p = copies_so s e (done (said e) (omega (arith, (accepted _ (copied_adds s) e).0)) p)

  -- where nothing is left out, all bytes were put
  pub copies_all : {l : Left} {n m : ℕ} {new : List ℕ} → got l n ≡ left_out s → length s - l.bytes ≤ length out → l.bytes ≡ 0 → Put out 0 (roomed out 0 (take (length s) s)) new m → Copies s out (got l m) new
  copies_all e h z p = copies_done e h (rw (accepted _ (kept_all s) e z) (roomy s (rw (take-length s) at p) (omega (arith, z))))

  -- refused by the row, which both go by
  said_no : {t : Told} → refused t ≡ left_out s → copy_said s ≡ no t
  unfolding copy_said kept left_out said_of means
  said_no {t} e = go (row_of s) e
    where
      go : (y : Answer (List Record)) → refused t ≡ means (left_by none) y → said_of (means (kept_of s) y) ≡ no t
      go (got xs n) f = zero_one (cc)
      go (refused u) f = cc

  pub copies_refused : {t : Told} → refused t ≡ left_out s → Copies s out (refused t) out
  unfolding copy_of
  copies_refused e = record { answers = stop _ e; leaves = (refusal {out = out} (said_no e)).leaves }
