-- Laws of a row of records: where a record ends, that there is fuel enough, and that bytes which follow a record that is not cut change nothing.
-- Assumes nothing.
use mathlib.Core.Path.{◌≡◌, refl, sym, ap, ◌∙◌}
use mathlib.Core.Bool.{true, false}
use mathlib.Core.Logic.{◌⊎◌}
use mathlib.Core.List.{List, [], ◌∷◌, ◌++◌}
use Prim.Native.Nat.{ℕ, zero, suc, ◌+◌, ◌-◌, ◌^◌, ◌≤◌, ◌<◌}
use native.Mathlib.Omega.{arith}
use borrow.Author.Tests.{eqb-true, lt-ltb, le-ltb}
use lib.Dec.{ltb, eqb, leb}
use lib.ListN.{length, take, drop, length-append, length-drop, length-take}
use lib.Seq.{length-take-le, take-append-le, drop-append-le}
use Rattle.layout.specs.Answer.{Answer, got, refused, pick, after, means, end_at, bare, span_at}
use Rattle.layout.specs.Bytes.{Bytes, number}
use Rattle.layout.specs.Refusals.{END, RECORD, LONG}
use Rattle.layout.proofs.laws.Accepted.{Accepts, accepts_any, accepts_all, accepts_both, accepts_means, accepts_after, accepts_pick, accepts_span, accepts_field}
use Rattle.layout.proofs.laws.Numbers.{Bytes-take, zero_one}
use Rattle.wire.specs.Container.{container_at}
use Rattle.wire.specs.Places.{num_at}
use Rattle.wire.specs.Refused.{announced, kind_in}
use Rattle.wire.specs.Tests.{◌gives◌else◌, holds, fails, Otherwise, otherwise}
use Rattle.wire.proofs.laws.Contained.{Boxed, container_stands, container_small}
use Rattle.recording.specs.Content.{Content, Record}
use Rattle.recording.specs.Content as content
use Rattle.recording.specs.Record.{limit, content_at, head_of, record_at, record_of, begins, body_at, head_at}
use Rattle.recording.specs.Row.{followed, found, records_in, is_end, is_cut}
use Rattle.recording.specs.declared.Head.{Head}
use Rattle.recording.proofs.Judged.{HeadSays, head_judged, head_one}
use Rattle.layout.proofs.laws.Told.{end_no, bare_no}

-- ── where a record ends ──

body_placed : (len kind : ℕ) (s : List ℕ) (start : ℕ) → start ≤ length s → Accepts (λ h n. (h.body.start ≡ start) × (n ≡ start + h.body.count) × (n ≤ length s)) (body_at len kind s start)
unfolding body_at
body_placed len kind s start h =
    accepts_pick _ (begins len kind) _ _
    (λ _. accepts_pick _ (leb (len - 6) limit) _ _ (λ _. accepts_means _ _ _ (span_at start (len - 6) s start) (accepts_span start (len - 6) s start) λ _ n p. (refl, p.1, omega (arith, p.0, p.1))) (λ _. tt))
    (λ _. tt)

pub head_placed : (s : List ℕ) (at : ℕ) → Accepts (λ h n. (h.body.start ≡ at + 6) × (n ≡ at + 6 + h.body.count) × (n ≤ length s)) (head_at s at)
unfolding head_at
head_placed s at =
    accepts_after _ _ (num_at 4 s at) _ (accepts_field 4 number s at) λ len a p.
    accepts_after _ _ (num_at 2 s a) _ (accepts_field 2 number s a) λ kind start q.
    accepts_all _ _ (body_at len kind s start) (body_placed len kind s start (omega (arith, q.0, q.1))) λ h n r. (omega (arith, p.1, q.1, r.0), omega (arith, p.1, q.1, r.1), r.2)

pub content_ends : (kind : ℕ) (s : List ℕ) (at : ℕ) → Accepts (λ c n. n ≡ length s) (content_at kind s at)
unfolding content_at
content_ends kind s at =
    accepts_pick _ (eqb kind 3) _ _ (λ _. refl)
    (λ _. accepts_after (λ _ _. Unit {0}) _ (container_at s at) _ (accepts_any (container_at s at)) λ x n _. accepts_pick _ (eqb n (length s)) _ _ (λ e. eqb-true n (length s) e) (λ _. tt))

-- after its body, which the six bytes precede
pub record Placed (s : List ℕ) (at : ℕ) (x : Record) (n : ℕ) : Type 0 where
  pub start : x.body.start ≡ at + 6
  pub till : n ≡ at + 6 + x.body.count
  pub within : n ≤ length s

pub record_placed : (s : List ℕ) (at : ℕ) → Accepts (Placed s at) (record_at s at)
unfolding record_at
record_placed s at =
    accepts_after _ _ (head_at s at) _ (head_placed s at) λ h end p.
    accepts_means _ _ _ (content_at h.kind (take end s) h.body.start) (content_ends h.kind (take end s) h.body.start) λ c n e.
    let same : n ≡ end = e ∙ length-take-le end s p.2 in
    record { start = p.0; till = same ∙ p.1; within = omega (arith, p.2) }

-- of bytes that begin with it
abbrev pub Stands : List ℕ → Record → ℕ → Type 0
Stands s = Placed s 0

pub record_stands : (s : List ℕ) → Accepts (Stands s) (record_of s)
record_stands s = record_placed s 0

-- what it holds has numbers of four bytes, and a payload within
abbrev pub Small : List ℕ → Content → Type 0
Small s content.note = Unit {0}
Small s (content.holds x) = (x.number < 256 ^ 4) × (x.payload.count ≤ length s)

content_small : (kind : ℕ) (s : List ℕ) → Bytes s → (at : ℕ) → Accepts (λ c n. Small s c) (content_at kind s at)
unfolding content_at
content_small kind s h at =
    accepts_pick _ (eqb kind 3) _ _ (λ _. tt)
    (λ _.
    accepts_after (λ x n. (x.number < 256 ^ 4) × Boxed s at x n) _ (container_at s at) _ (accepts_both _ _ (container_at s at) (container_small s h at) (container_stands s at)) λ x n p.
    accepts_pick _ (eqb n (length s)) _ _ (λ _. (p.0, omega (arith, p.1.till, p.1.within))) (λ _. tt))

pub record_small : (s : List ℕ) → Bytes s → Accepts (λ x n. Small s x.content) (record_of s)
unfolding record_at
record_small s h =
    accepts_after _ _ (head_of s) _ (accepts_any (head_of s)) λ f end p.
    accepts_means _ _ _ (content_at f.kind (take end s) f.body.start) (content_small f.kind (take end s) (Bytes-take end s h) f.body.start) λ c n e. wider end c e
  where
    wider : (next : ℕ) (c : Content) → Small (take next s) c → Small s c
    wider next content.note e = tt
    wider next (content.holds x) e = (e.0, omega (arith, e.1, length-take next s))

-- ── fuel ──

followed_same : (x : Answer Record) (f g : ℕ → List (Answer Record)) → Accepts (λ _ n. f n ≡ g n) x → followed x f ≡ followed x g
followed_same (got x n) f g e = ap (λ l. got x n ∷ l) e
followed_same (refused t) f g e = refl

found_none : (f : ℕ) (s : List ℕ) → length s ≤ 0 → found f s ≡ []
unfolding found
found_none zero s h = refl
found_none (suc f) s h = rw (le-ltb 0 (length s) h)

followed_found : (f g : ℕ) (s : List ℕ) → Accepts (λ _ n. found f (drop n s) ≡ found g (drop n s)) (record_of s) → found (suc f) s ≡ found (suc g) s
unfolding found
followed_found f g s e = ap (λ l. pick (ltb 0 (length s)) l []) (followed_same (record_of s) (λ n. found f (drop n s)) (λ n. found g (drop n s)) e)

enough : (f g : ℕ) (s : List ℕ) → length s ≤ f → length s ≤ g → found f s ≡ found g s
enough zero g s h k = found_none zero s h ∙ sym (found_none g s h)
enough (suc f) zero s h k = found_none (suc f) s k ∙ sym (found_none zero s k)
enough (suc f) (suc g) s h k = followed_found f g s (accepts_all (Stands s) _ (record_of s) (record_stands s) λ x n p. enough f g (drop n s) (less n f (omega arith) h) (less n g (omega arith) k))
  where
    less : (n b : ℕ) → 0 < n → length s ≤ suc b → length (drop n s) ≤ b
    less n b e h = rw (length-drop n s) (omega arith)

pub records_none : (s : List ℕ) → length s ≤ 0 → records_in s ≡ []
unfolding records_in
records_none s h = found_none (length s) s h

pub records_step : (s : List ℕ) → 0 < length s → records_in s ≡ followed (record_of s) (λ n. records_in (drop n s))
unfolding records_in found
records_step s h =
    enough (length s) (suc (length s)) s (omega arith) (omega arith)
    ∙ ap (λ b. pick b (followed (record_of s) (λ n. found (length s) (drop n s))) []) (lt-ltb 0 (length s) h)
    ∙ followed_same (record_of s) (λ n. found (length s) (drop n s)) (λ n. found (length (drop n s)) (drop n s))
    (accepts_all (Stands s) _ (record_of s) (record_stands s) λ x n p. enough (length s) (length (drop n s)) (drop n s) (rw (length-drop n s) (omega arith)) (omega arith))

-- ── bytes that follow ──

is-end : (place : ℕ) → eqb (end_at place).no END ≡ false → ⊥
is-end place e = let f : true ≡ false = rw (end_no place) at e in zero_one (cc)

not_end : (number : ℕ) → eqb number END ≡ false → eqb (bare number).no END ≡ true → ⊥
not_end number h e = let f : eqb number END ≡ true = rw (bare_no number) at e in zero_one (cc)

-- the tests of a head by its two numbers and how many bytes there are
abbrev Known : ℕ → ℕ → ℕ → Answer Head → Type 0
Known len kind n =
    ((len < 6) ⊎ (kind < 1) ⊎ (3 < kind)) gives refused (bare RECORD) else
    limit < len - 6 gives refused (bare LONG) else
    n < len gives refused (end_at 6) else
    Otherwise (got (record { kind = kind; body = record { start = 6; count = len - 6 } }) len)

-- a head that is not cut has its six bytes, which are the first of more bytes too
head_same : (s t : List ℕ) → is_cut s ≡ false → head_of (s ++ t) ≡ head_of s
unfolding is_cut
head_same s t uncut = head_one (s ++ t) (head_of (s ++ t)) (head_of s) (head_judged (s ++ t)) (go (head_judged s) uncut)
  where
    longer : (n : ℕ) → (length s < n → ⊥) → length (s ++ t) < n → ⊥
    longer n h k = omega (arith, length-append s t)

    len : (length s < 6 → ⊥) → announced (s ++ t) ≡ announced s
    len six = ap number (take-append-le 4 s t (omega arith))

    kind : (length s < 6 → ⊥) → kind_in (s ++ t) ≡ kind_in s
    kind six = ap number (rw (drop-append-le 4 s t (omega arith)) (take-append-le 2 (drop 4 s) t (rw (length-drop 4 s) (omega arith))))

    -- behind the six bytes
    behind : {x : Answer Head} → (length s < 6 → ⊥) → Known (announced s) (kind_in s) (length (s ++ t)) x →
        (length (s ++ t) < 6 gives refused (end_at 4) else Known (announced (s ++ t)) (kind_in (s ++ t)) (length (s ++ t))) x
    behind {x} six r = fails {x = x} (longer 6 six) (rw (len six, kind six) r)

    go : {x : Answer Head} → HeadSays s x → is_end x ≡ false → HeadSays (s ++ t) x
    go (holds h) e = absurd (is-end 0 e)
    go (fails a (holds h)) e = absurd (is-end 4 e)
    go (fails a (fails b (holds h))) e = fails (longer 4 a) (behind b (holds h))
    go (fails a (fails b (fails c (holds h)))) e = fails (longer 4 a) (behind b (fails c (holds h)))
    go (fails a (fails b (fails c (fails d (holds h))))) e = absurd (is-end 6 e)
    go (fails a (fails b (fails c (fails d (fails f otherwise))))) e =
        fails (longer 4 a) (behind b (fails c (fails d (fails (longer (announced s) f) otherwise))))

pub after_same : {A B : Type 0} (x : Answer A) (f g : A → ℕ → Answer B) → Accepts (λ a n. f a n ≡ g a n) x → after x f ≡ after x g
unfolding after
after_same (got a n) f g e = e
after_same (refused t) f g e = refl

pub uncut_same : (s t : List ℕ) → is_cut s ≡ false → record_of (s ++ t) ≡ record_of s
unfolding record_at
uncut_same s t uncut = rw (head_same s t uncut) (after_same (head_of s) (filled (s ++ t)) (filled s) (accepts_all _ _ (head_of s) (head_placed s 0) λ h end p. rw (take-append-le end s t p.2)))
  where
    filled : List ℕ → Head → ℕ → Answer Record
    filled v h end = means (λ c. record { kind = h.kind; body = h.body; content = c }) (content_at h.kind (take end v) h.body.start)

-- what is cut is shorter than the longest record, and a whole record is not cut
pub cut_short : (s : List ℕ) → is_cut s ≡ true → length s < 6 + limit
unfolding is_cut
cut_short s cut = go (head_judged s) cut
  where
    go : {x : Answer Head} → HeadSays s x → is_end x ≡ true → length s < 6 + limit
    go (holds h) e = omega arith
    go (fails a (holds h)) e = omega arith
    go (fails a (fails b (holds h))) e = absurd (not_end RECORD refl e)
    go (fails a (fails b (fails c (holds h)))) e = absurd (not_end LONG refl e)
    go (fails a (fails b (fails c (fails d (holds h))))) e = omega arith
    go (fails a (fails b (fails c (fails d (fails f otherwise))))) e = zero_one (cc)

-- no bytes are a record that is cut
pub uncut_some : (s : List ℕ) → is_cut s ≡ false → 0 < length s
unfolding is_cut
uncut_some s uncut = go (head_judged s) uncut
  where
    go : {x : Answer Head} → HeadSays s x → is_end x ≡ false → 0 < length s
    go (holds h) e = absurd (is-end 0 e)
    go (fails a r) e = omega arith

pub whole_uncut : (s : List ℕ) {x : Record} {n : ℕ} → got x n ≡ record_of s → is_cut s ≡ false
unfolding record_at is_cut after
whole_uncut s {x} {n} e = go (head_of s) e
  where
    go : (y : Answer Head) →
        got x n ≡ after y (λ h end. means (λ c. record { kind = h.kind; body = h.body; content = c }) (content_at h.kind (take end s) h.body.start)) → is_end y ≡ false
    go (got h end) e = refl
    go (refused t) e = zero_one (cc)
