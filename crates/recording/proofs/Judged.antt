-- What `read_record` answers, said with no reader: it meets specs/Refused, which determines the answer. A field is there or it is not; then its test holds
-- or it does not; and the body's container is judged as every container is.
-- Assumes nothing.
use Rattle.wire.specs.Read.{Read}
use mathlib.Core.Path.{◌≡◌, refl, ◌∙◌}
use mathlib.Core.Bool.{Bool, true, false}
use mathlib.Core.Logic.{◌⊎◌, inl, inr}
use mathlib.Core.List.{List}
use Prim.Native.Nat.{ℕ, ◌+◌, ◌-◌, ◌≤◌, ◌<◌}
use native.Mathlib.Omega.{arith}
use borrow.Author.Tests.{leb-true, leb-false, eqb-true, eqb-false}
use lib.Dec.{leb, eqb, lit≤}
use lib.ListN.{length, take, drop, length-drop}
use lib.Seq.{length-take-le}
use Rattle.layout.specs.Answer.{Answer, got, refused, pick, after, means, end_at, bare, span_at}
use Rattle.layout.specs.Refusals.{TRAIL}
use Rattle.layout.proofs.laws.Make.{Spanned, there, short, spanned}
use Rattle.layout.proofs.laws.Reading.{drop_take}
use Rattle.wire.specs.Container.{container_at}
use Rattle.wire.specs.Tests.{◌gives◌else◌, holds, fails, Otherwise, otherwise}
use Rattle.wire.specs.Refused.{announced, kind_in, ContainerTests, container_in, ContainerSays}
use Rattle.wire.specs.declared.container.Container.{Container}
use Rattle.wire.proofs.laws.Judged.{one_test, one_otherwise, till, goes_on, enough, least, least_row, field_row, beyond, container_judged}
use Rattle.recording.specs.Record.{limit, is_kind, begins, content_at, body_at, head_at, head_of, record_at, record_of, says_record}
use Rattle.recording.specs.Refused.{HeadTests, body_in, record_in, FilledSays, ContentSays, RecordSays}
use Rattle.recording.specs.declared.Head.{Head}
use Rattle.recording.specs.Content as content
use Rattle.recording.specs.declared.Record as declared-record
use Rattle.recording.specs.Content.{Record}

-- ── tests of a record ──

begins_row : {A : Type 0} {Q : A → Type 0} (len kind : ℕ) (x : A) {y : A} → (6 ≤ len → Q x) → (((len < 6) ⊎ (kind < 1) ⊎ (3 < kind)) gives y else Q) (pick (begins len kind) x y)
unfolding is_kind
begins_row {A} {Q} len kind x {y} f = go (leb 6 len) refl (leb 1 kind) refl (leb kind 3) refl
  where
    none : 6 ≤ len → 1 ≤ kind → kind ≤ 3 → (len < 6) ⊎ (kind < 1) ⊎ (3 < kind) → ⊥
    none l low high (inl h) = enough l h
    none l low high (inr (inl h)) = enough low h
    none l low high (inr (inr h)) = enough high h

    go : (a : Bool) → leb 6 len ≡ a → (b : Bool) → leb 1 kind ≡ b → (c : Bool) → leb kind 3 ≡ c → (((len < 6) ⊎ (kind < 1) ⊎ (3 < kind)) gives y else Q) (pick (pick a (pick b c false) false) x y)
    go false d b e c g = holds (inl (leb-false 6 len d))
    go true d false e c g = holds (inr (inl (leb-false 1 kind e)))
    go true d true e false g = holds (inr (inr (leb-false kind 3 g)))
    go true d true e true g = fails (none (leb-true 6 len d) (leb-true 1 kind e) (leb-true kind 3 g)) (f (leb-true 6 len d))

-- ── the head ──

abbrev pub head_in : List ℕ → Head
head_in s = record { kind = kind_in s; body = record { start = 6; count = announced s - 6 } }

abbrev pub HeadSays : List ℕ → Answer Head → Type 0
HeadSays s = HeadTests s (Otherwise (got (head_in s) (announced s)))

-- the body that is announced
body_row : (s : List ℕ) → 6 ≤ announced s → 6 ≤ length s →
    (length s < announced s gives refused (end_at 6) else Otherwise (got (head_in s) (announced s))) (means (λ _. head_in s) (span_at 6 (announced s - 6) s 6))
unfolding means
body_row s l h = go (span_at 6 (announced s - 6) s 6) (spanned 6 (announced s - 6) s 6)
  where
    go : (x : Answer (Unit {0})) → Spanned 6 (announced s - 6) s 6 x →
        (length s < announced s gives refused (end_at 6) else Otherwise (got (head_in s) (announced s))) (means (λ _. head_in s) x)
    go (got t n) (there k) = let within : announced s ≤ length s = omega arith in let end : 6 + (announced s - 6) ≡ announced s = omega arith in fails (enough within) (till end)
    go (refused t) (short k) = holds (omega arith)

pub head_judged : (s : List ℕ) → HeadSays s (head_of s)
unfolding head_at body_at
head_judged s =
    field_row 4 0 s 0 0 _ (lit≤ tt) refl refl λ a ea _.
    field_row 2 4 s 0 4 _ (lit≤ tt) ea refl λ b eb hb.
    rw eb (begins_row (announced s) (kind_in s) _ λ l. least_row (announced s - 6) limit _ λ _. body_row s l hb)

pub head_one : (s : List ℕ) (x y : Answer Head) → HeadSays s x → HeadSays s y → x ≡ y
head_one s = one_test (one_test (one_test (one_test (one_test one_otherwise))))

-- behind its tests
beyond_head : {A B : Type 0} (s : List ℕ) {P : Answer A → Type 0} {Q : Answer B → Type 0} (k : A → ℕ → Answer B) →
    ((x : Answer A) → 6 ≤ announced s → announced s ≤ length s → P x → Q (after x k)) → (x : Answer A) → HeadTests s P x → HeadTests s Q (after x k)
beyond_head s k f =
    goes_on k λ x _. goes_on k (λ x _. goes_on k (λ x known. goes_on k (λ x _. goes_on k (λ x short. f x (least (λ h. known (inl h))) (least short)) x) x) x) x

-- ── the body ──

means_after : {A B C : Type 0} (f : B → C) (x : Answer A) (k : A → ℕ → Answer B) → means f (after x k) ≡ after x (λ a n. means f (k a n))
unfolding means after
means_after f (got a n) k = refl
means_after f (refused t) k = refl

module _ (s : List ℕ) (six : 6 ≤ announced s) (whole : announced s ≤ length s) where
  -- the bytes that end with the body
  till_body : List ℕ
  till_body = take (announced s) s

  body_is : drop 6 till_body ≡ body_in s
  unfolding till_body
  body_is = let e : 6 + (announced s - 6) ≡ announced s = omega arith in rw e at (drop_take 6 (announced s - 6) s)

  till_length : length till_body ≡ announced s
  unfolding till_body
  till_length = length-take-le (announced s) s whole

  body_length : length (body_in s) ≡ announced s - 6
  body_length = length-take-le (announced s - 6) (drop 6 s) (omega (arith, length-drop 6 s))

  abbrev held : Container → ℕ → Answer Record
  held x n = means (record_in s) (pick (eqb n (length till_body)) (got (content.holds x) n) (refused (bare TRAIL)))

  fills : (x : Answer Container) → (length (body_in s) < announced (body_in s) → ⊥) → Otherwise (got (container_in 6 (body_in s)) (6 + announced (body_in s))) x →
      FilledSays s (after x held)
  unfolding after means
  fills x within otherwise = go (eqb (6 + announced (body_in s)) (length till_body)) refl
    where
      go : (b : Bool) → eqb (6 + announced (body_in s)) (length till_body) ≡ b →
          FilledSays s (means (record_in s) (pick b (got (content.holds (container_in 6 (body_in s))) (6 + announced (body_in s))) (refused (bare TRAIL))))
      go true e =
          let same : 6 + announced (body_in s) ≡ length till_body = eqb-true (6 + announced (body_in s)) (length till_body) e in
          let n : 6 + announced (body_in s) ≡ announced s = same ∙ till_length in
          fails (λ h. omega (arith, body_length)) (till n)
      go false e = holds (omega (arith, body_length, till_length, eqb-false (6 + announced (body_in s)) (length till_body) e))

  content_judged : ContentSays s (means (record_in s) (content_at (kind_in s) till_body 6))
  unfolding content_at means
  content_judged = go (eqb (kind_in s) 3) refl
    where
      judged : ContainerSays 6 (body_in s) (container_at till_body 6)
      judged = rw body_is at (container_judged till_body 6)

      go : (b : Bool) → eqb (kind_in s) 3 ≡ b →
          ContentSays s
          (means (record_in s)
          (pick b (got content.note (length till_body))
          (after (container_at till_body 6) λ x n. pick (eqb n (length till_body)) (got (content.holds x) n) (refused (bare TRAIL)))))
      go true e = rw till_length (holds (eqb-true (kind_in s) 3 e))
      go false e =
          let tests : ContainerTests 6 (body_in s) (FilledSays s) (after (container_at till_body 6) held) = beyond 6 (body_in s) held (λ x _ _ p. goes_on held fills x p) (container_at till_body 6) judged in
          fails (eqb-false (kind_in s) 3 e)
          (rw (← means_after (record_in s) (container_at till_body 6) (λ x n. pick (eqb n (length till_body)) (got (content.holds x) n) (refused (bare TRAIL)))) at tests)

-- ── the record ──

pub record_judged : (s : List ℕ) → RecordSays s (record_of s)
unfolding record_at after till_body
record_judged s = beyond_head s _ rest (head_of s) (head_judged s)
  where
    rest : (x : Answer Head) → 6 ≤ announced s → announced s ≤ length s → Otherwise (got (head_in s) (announced s)) x →
        ContentSays s (after x λ h end. means (λ c. record { kind = h.kind; body = h.body; content = c }) (content_at h.kind (take end s) h.body.start))
    rest x six whole otherwise = content_judged s six whole

-- ── of the functions' own answers; and no other answer is said of the same bytes ──

pub record_says : (s : List ℕ) (r : Read declared-record.Record) → says_record r ≡ record_of s → RecordSays s (says_record r)
record_says s r promised = rw promised (record_judged s)

pub record_one : (s : List ℕ) (x y : Answer Record) → RecordSays s x → RecordSays s y → x ≡ y
record_one s =
    one_test (one_test (one_test (one_test (one_test (one_test
    (one_test (one_test (one_test (one_test (one_test (one_test (one_test
    (one_test one_otherwise)))))))))))))
