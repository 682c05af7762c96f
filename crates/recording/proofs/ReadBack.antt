-- What `write_record` writes, `read_record` reads back, and it is no note. Of the bytes of a record that was written no test of specs/Refused holds: not the record's own, by its two numbers, and
-- not the container's, for none held when the writer tried the body, and where the body stands changes none of them.
-- Assumes nothing.
use Rattle.wire.specs.Read.{Read}
use mathlib.Core.Path.{◌≡◌, refl, sym, ap, ◌∙◌}
use mathlib.Core.Bool.{Bool, true, false}
use mathlib.Core.Logic.{◌⊎◌, inl, inr}
use mathlib.Core.List.{List, [], ◌++◌, append-nil}
use Prim.Native.Nat.{ℕ, ◌+◌, ◌-◌, ◌^◌, ◌≤◌, ◌<◌}
use native.Mathlib.Omega.{arith}
use borrow.Author.Tests.{leb-true, eqb-true, eqb-false}
use lib.Dec.{leb, eqb}
use lib.ListN.{length, take, drop, length-append, length-drop}
use lib.Seq.{take-append_seam, take_at, take_all, drop-append-le}
use Rattle.layout.specs.Answer.{Told, Answer, got, refused, pick, after, means, bare}
use Rattle.layout.specs.Bytes.{bytes}
use Rattle.layout.specs.Refusals.{TRAIL, RECORD, LONG}
use Rattle.layout.specs.Written.{says, no, said_of, Wrote}
use Rattle.layout.proofs.laws.Accepted.{accepted}
use Rattle.layout.proofs.laws.Did.{Whole, whole}
use Rattle.layout.proofs.laws.Numbers.{number_bytes, zero_one}
use Rattle.wire.specs.Container.{container_at, container_word, container_said}
use Rattle.wire.specs.Tests.{◌gives◌else◌, holds, fails, Otherwise, otherwise}
use Rattle.wire.specs.Refused.{announced, kind_in, code_in, number_in, ContainerTests, container_in, ContainerSays}
use Rattle.wire.specs.Returned.{part_of}
use Rattle.wire.specs.declared.container.Container.{Container}
use Rattle.wire.proofs.laws.Contained.{Boxed, container_stands, container_length}
use Rattle.wire.proofs.laws.Judged.{container_judged}
use Rattle.wire.proofs.laws.ReadBack as wire
use Rattle.recording.specs.Record.{limit, is_written, content_at, record_of, record_word, record_said, says_record}
use Rattle.recording.specs.Refused.{body_in, record_in, ContentSays, RecordSays}
use Rattle.recording.specs.Returned.{Held, a_container, ReturnsRecord, ReturnsContainer}
use Rattle.recording.specs.declared.Record as declared-record
use Rattle.recording.specs.Content.{Content, Record}
use Rattle.recording.specs.Content as content
use Rattle.recording.proofs.Judged.{record_judged, record_one}
use Rattle.recording.proofs.Recorded.{record_length}

-- ── what the writer was content with ──

-- a body that it took: a container that fills it. A note it takes no more
pub data Taken (kind : ℕ) (body : List ℕ) : Type 0 where
  filled : (x : Container) → (kind ≡ 3 → ⊥) → container_at body 0 ≡ got x (length body) → Taken kind body

pub record Due (kind : ℕ) (body w : List ℕ) : Type 0 where
  pub low : 1 ≤ kind
  pub high : kind ≤ 2
  pub small : length body ≤ limit
  pub taken : Taken kind body
  pub word : w ≡ record_word kind body

taken_by : (kind : ℕ) (body : List ℕ) (c : Content) (n : ℕ) → (kind ≡ 3 → ⊥) → content_at kind body 0 ≡ got c n → Taken kind body
unfolding content_at after
taken_by kind body c n no_note e = go (eqb kind 3) refl e
  where
    ends : (x : Container) (m : ℕ) → container_at body 0 ≡ got x m → (kind ≡ 3 → ⊥) → (b : Bool) → eqb m (length body) ≡ b → pick b (got (content.holds x) m) (refused (bare TRAIL)) ≡ got c n → Taken kind body
    ends x m is other true h f = let same : m ≡ length body = eqb-true m (length body) h in filled x other (rw same at is)
    ends x m is other false h f = zero_one (cc)

    of : (y : Answer Container) → container_at body 0 ≡ y → (kind ≡ 3 → ⊥) → after y (λ x m. pick (eqb m (length body)) (got (content.holds x) m) (refused (bare TRAIL))) ≡ got c n → Taken kind body
    of (got x m) is other f = ends x m is other (eqb m (length body)) refl f
    of (refused t) is other f = zero_one (cc)

    go : (b : Bool) → eqb kind 3 ≡ b →
        pick b (got content.note (length body)) (after (container_at body 0) λ x m. pick (eqb m (length body)) (got (content.holds x) m) (refused (bare TRAIL))) ≡ got c n → Taken kind body
    go true h f = absurd (no_note (eqb-true kind 3 h))
    go false h f = of (container_at body 0) refl (eqb-false kind 3 h) f

pub due : (kind : ℕ) (body w : List ℕ) → record_said kind body ≡ says w → Due kind body w
unfolding record_said is_written said_of means
due kind body w e = go (leb 1 kind) refl (leb kind 2) refl (leb (length body) limit) refl (content_at kind body 0) refl e
  where
    go : (a : Bool) → leb 1 kind ≡ a → (b : Bool) → leb kind 2 ≡ b → (c : Bool) → leb (length body) limit ≡ c → (y : Answer Content) → content_at kind body 0 ≡ y →
        pick (pick a b false) (pick c (said_of (means (λ _. record_word kind body) y)) (no (bare LONG))) (no (bare RECORD)) ≡ says w → Due kind body w
    go true h true k true l (got x n) is f =
        let high : kind ≤ 2 = leb-true kind 2 k in
        record { low = leb-true 1 kind h; high = high; small = leb-true (length body) limit l; taken = taken_by kind body x n (λ three. omega arith) is; word = cc }
    go true h true k true l (refused t) is f = zero_one (cc)
    go true h true k false l y is f = zero_one (cc)
    go true h false k c l y is f = zero_one (cc)
    go false h b k c l y is f = zero_one (cc)

-- ── the bytes of a record ──

-- a test that an accepted answer passed is passed at any place, with any answer behind it
passed : {A B C : Type 0} {t u : Told} {P : Answer A → Type 0} {Q : Answer B → Type 0} {x : Answer A} {y : Answer B} {a : A} {n : ℕ} → x ≡ got a n → (P x → Q y) →
    (C gives refused t else P) x → (C gives refused u else Q) y
passed e f (holds c) = zero_one (cc)
passed e f (fails n r) = fails n (f r)

-- and behind it stands what the answer was accepted for
behind_row : {A C : Type 0} {t : Told} {P : Answer A → Type 0} {x : Answer A} {a : A} {n : ℕ} → x ≡ got a n → (C gives refused t else P) x → P x
behind_row e (holds c) = zero_one (cc)
behind_row e (fails n r) = r

behind_tests : (body : List ℕ) {P : Answer Container → Type 0} {x : Answer Container} {a : Container} {n : ℕ} → x ≡ got a n → ContainerTests 0 body P x → P x
behind_tests body e p = behind_row e (behind_row e (behind_row e (behind_row e (behind_row e (behind_row e (behind_row e p))))))

moved : (body : List ℕ) {P : Answer Container → Type 0} {Q : Answer Record → Type 0} {x : Answer Container} {y : Answer Record} {a : Container} {n : ℕ} → x ≡ got a n → (P x → Q y) →
    ContainerTests 0 body P x → ContainerTests 6 body Q y
moved body e f = passed e (passed e (passed e (passed e (passed e (passed e (passed e f))))))

module _ (kind : ℕ) (body behind : List ℕ) (low : 1 ≤ kind) (high : kind ≤ 2) (small : length body ≤ limit) where
  word : List ℕ
  word = record_word kind body ++ behind

  is_announced : announced word ≡ 6 + length body
  unfolding word record_word bytes
  is_announced = number_bytes 4 (6 + length body) (omega arith)

  is-kind : kind_in word ≡ kind
  unfolding word record_word bytes
  is-kind = number_bytes 2 kind (omega arith)

  count_is : announced word - 6 ≡ length body
  count_is = omega (arith, is_announced)

  body_there : take (length body) (drop 6 word) ≡ body
  unfolding word record_word bytes
  body_there = take-append_seam body behind

  is_body : body_in word ≡ body
  is_body = rw count_is body_there

  is-long : 6 + length body ≤ length word
  unfolding word
  is-long = omega (arith, length-append (record_word kind body) behind, record_length kind body)

  -- no test of the record's own holds
  own : {x : Answer Record} → ContentSays word x → RecordSays word x
  own p =
      fails (λ h. omega (arith, is-long)) (fails (λ h. omega (arith, is-long)) (fails (λ h. known h) (fails (λ h. omega (arith, count_is)) (fails (λ h. omega (arith, is_announced, is-long)) p))))
    where
      known : (announced word < 6) ⊎ (kind_in word < 1) ⊎ (3 < kind_in word) → ⊥
      known (inl h) = omega (arith, is_announced)
      known (inr (inl h)) = omega (arith, is-kind)
      known (inr (inr h)) = omega (arith, is-kind)

  abbrev answer : Content → Answer Record
  answer c = got (record_in word c) (announced word)

  -- the container fills the body
  fills : (x : Container) → container_at body 0 ≡ got x (length body) → (12 ≤ length body) × (announced body ≡ length body)
  fills x is =
      let b = accepted (Boxed body 0) (container_stands body 0) (sym is) in
      (omega (arith, b.start, b.till), ends refl (behind_tests body refl (rw is at (container_judged body 0))))
    where
      ends : {y : Answer Container} → y ≡ got x (length body) → Otherwise (got (container_in 0 body) (0 + announced body)) y → announced body ≡ length body
      ends e otherwise = let same : 0 + announced body ≡ length body = cc in omega arith

  of_container : (x : Container) → (kind ≡ 3 → ⊥) → container_at body 0 ≡ got x (length body) → RecordSays word (answer (content.holds (container_in 6 (body_in word))))
  of_container x other is = own (fails (λ e. other (sym is-kind ∙ e)) (moved (body_in word) refl (λ _. fails (λ h. omega (arith, full)) otherwise) judged))
    where
      same : container_at (body_in word) 0 ≡ got x (length (body_in word))
      same = rw is_body is

      judged : ContainerSays 0 (body_in word) (got x (length (body_in word)))
      judged = rw same at (container_judged (body_in word) 0)

      full : announced (body_in word) ≡ length (body_in word)
      full = rw is_body (fills x is).1

  payload_there : (x : Container) → container_at body 0 ≡ got x (length body) → part_of word (container_in 6 (body_in word)).payload ≡ drop 12 body
  unfolding word record_word bytes
  payload_there x is =
      let f = fills x is in
      let count : announced (body_in word) - 12 ≡ length (drop 12 body) = rw is_body (omega (arith, f.1, length-drop 12 body)) in
      rw (count, drop-append-le 12 body behind f.0) (take-append_seam (drop 12 body) behind)

  returned : (y : Answer Record) (n : ℕ) → y ≡ record_of word → n ≡ 6 + length body → Taken kind body → ReturnsRecord kind body word n y
  returned y n e h (filled x other is) = record {
    found = record_in word (content.holds (container_in 6 (body_in word)));
    answer = rw (h ∙ sym is_announced) (e ∙ record_one word (record_of word) (answer (content.holds (container_in 6 (body_in word)))) (record_judged word) (of_container x other is));
    same_kind = is-kind;
    holds = is_body;
    held = a_container (ap kind_in is_body) (ap code_in is_body) (ap number_in is_body) (payload_there x is);
  }

-- ── of the functions' own answers ──

pub record_returns : (kind : ℕ) (body old new : List ℕ) (n : ℕ) → Wrote (record_said kind body) old (got tt n) new → (r : Read declared-record.Record) → says_record r ≡ record_of new → ReturnsRecord kind body new n (says_record r)
unfolding word
record_returns kind body old new n promised r e =
    let w = whole promised in
    let d = due kind body w.bs w.due in
    let stands : new ≡ record_word kind body ++ drop (length w.bs) old = w.left ∙ ap (λ v. v ++ drop (length w.bs) old) d.word in
    let read : says_record r ≡ record_of (record_word kind body ++ drop (length w.bs) old) = rw stands at e in
    rw stands (returned kind body (drop (length w.bs) old) d.low d.high d.small (says_record r) n read (w.count ∙ ap length d.word ∙ record_length kind body) d.taken)

-- ── a container that was written, recorded ──

module _ (kind code tid : ℕ) (payload old written : List ℕ) (m : ℕ) (Code-fits : code < 256 ^ 2) (tid_fits : tid < 256 ^ 4) (promised : Wrote (container_said kind code tid payload) old (got tt m) written) where
  wrote : Whole (container_said kind code tid payload) old m written
  wrote = whole promised

  was_due : wire.Due kind code tid payload wrote.bs
  was_due = wire.due kind code tid payload wrote.bs wrote.due

  box : List ℕ
  box = take m written

  box_stands : box ≡ container_word kind code tid payload ++ []
  unfolding box
  box_stands = ap (take m) wrote.left ∙ take_at wrote.bs (drop (length wrote.bs) old) m (sym wrote.count) ∙ was_due.word ∙ sym (append-nil (container_word kind code tid payload))

  -- its numbers and its payload are in its bytes
  numbers : container_in 0 box ≡ record { kind = kind; code = code; number = tid; payload = record { start = 0 + 12; count = length payload } }
  numbers = same refl (behind_tests box refl (rw there at (container_judged box 0)))
    where
      there : container_at box 0 ≡ got (record { kind = kind; code = code; number = tid; payload = record { start = 0 + 12; count = length payload } }) (0 + (12 + length payload))
      there = wire.container_there kind code tid payload [] was_due.known Code-fits tid_fits was_due.small box 0 box_stands

      same : {y : Answer Container} {a b : Container} {k n : ℕ} → y ≡ got b n → Otherwise (got a k) y → a ≡ b
      same e otherwise = cc

  payload_is : drop 12 box ≡ payload
  payload_is =
      let long : length box ≡ 12 + length payload = ap length box_stands ∙ ap length (append-nil (container_word kind code tid payload)) ∙ container_length kind code tid payload in
      sym (take_all (length payload) (drop 12 box) (omega (arith, length-drop 12 box)))
      ∙ wire.payload_there kind code tid payload [] was_due.known Code-fits tid_fits was_due.small box 0 box_stands

  pub container_recorded : (way : ℕ) (old' new : List ℕ) (n : ℕ) → Wrote (record_said way (take m written)) old' (got tt n) new →
      (r : Read declared-record.Record) → says_record r ≡ record_of new → ReturnsContainer way kind code tid payload new n (says_record r)
  unfolding box
  container_recorded way old' new n recorded r e =
      let b = record_returns way (take m written) old' new n recorded r e in
      let h = holding b.found.content b.held in
      record {
        found = b.found;
        container = h.0;
        answer = b.answer;
        same_way = b.same_kind;
        content = h.1.0;
        same_kind = h.1.1 ∙ ap (λ x. x.kind) numbers;
        same_code = h.1.2 ∙ ap (λ x. x.code) numbers;
        same_number = h.1.3 ∙ ap (λ x. x.number) numbers;
        holds = h.1.4 ∙ payload_is;
      }
    where
      holding : (c : Content) → Held (take m written) new c →
          (x : Container) × ((c ≡ content.holds x) × (x.kind ≡ kind_in (take m written)) × (x.code ≡ code_in (take m written)) × (x.number ≡ number_in (take m written)) × (part_of new x.payload ≡ drop 12 (take m written)))
      holding c (a_container {x = x} k l t p) = (x, (refl, k, l, t, p))
