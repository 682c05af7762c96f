-- What `read_header` and `read_container` answer, said with no reader: they meet specs/Refused, which determines the answer. A field is there or it is not; then its
-- test holds or it does not.
-- Assumes nothing.
use Rattle.wire.specs.Read.{Read, says_read}
use mathlib.Core.Path.{◌≡◌, refl, sym}
use mathlib.Core.Bool.{Bool, true, false}
use mathlib.Core.Logic.{◌⊎◌, inl, inr}
use mathlib.Core.List.{List}
use Prim.Native.Nat.{ℕ, ◌+◌, ◌-◌, ◌≤◌, ◌<◌}
use native.Mathlib.Nat.{add-zero}
use native.Mathlib.Omega.{arith}
use borrow.Author.Tests.{leb-true, leb-false}
use lib.Dec.{leb, lit≤}
use lib.ListN.{length, take, drop, length-drop}
use lib.Seq.{drop-drop}
use Rattle.layout.specs.Answer.{Told, Answer, got, refused, pick, after, end_at, bare, span_at, field_at}
use Rattle.layout.specs.Bytes.{number}
use Rattle.layout.specs.Refusals.{SIZE}
use Rattle.layout.proofs.laws.Make.{Spanned, there, short, spanned}
use Rattle.wire.specs.Places.{num_at}
use Rattle.wire.specs.Container.{is_kind, header_rest, header_at, container_at}
use Rattle.wire.specs.Tests.{◌gives◌else◌, holds, fails, Otherwise, otherwise}
use Rattle.wire.specs.Refused.{announced, kind_in, HeaderTests, header_in, HeaderSays, container_in, ContainerSays}
use Rattle.wire.specs.declared.container.Header.{Header}
use Rattle.wire.specs.declared.container.Container.{Container}

-- ── tests ──

-- a row of tests gives one answer
pub one_test : {A C : Type 0} {a : A} {P : A → Type 0} → ((x y : A) → P x → P y → x ≡ y) → (x y : A) → (C gives a else P) x → (C gives a else P) y → x ≡ y
one_test f x y (holds c) (holds d) = refl
one_test f x y (holds c) (fails n r) = absurd (n c)
one_test f x y (fails n r) (holds d) = absurd (n d)
one_test f x y (fails n r) (fails m q) = f x y r q

pub one_otherwise : {A : Type 0} {a : A} (x y : A) → Otherwise a x → Otherwise a y → x ≡ y
one_otherwise x y otherwise otherwise = refl

pub till : {A : Type 0} {a : A} {m n : ℕ} → m ≡ n → Otherwise (got a n) (got a m)
till e = rw e otherwise

-- a refusal stands, and an answer goes on
pub goes_on : {A B C : Type 0} {t : Told} {P : Answer A → Type 0} {Q : Answer B → Type 0} (k : A → ℕ → Answer B) → ((x : Answer A) → (C → ⊥) → P x → Q (after x k)) →
    (x : Answer A) → (C gives refused t else P) x → (C gives refused t else Q) (after x k)
unfolding after
goes_on k f x (holds c) = holds c
goes_on k f x (fails n r) = fails n (f x n r)

-- a test of two numbers, and of one that must be from 1 to n
pub enough : {m n : ℕ} → m ≤ n → n < m → ⊥
enough h k = omega arith

pub least : {m n : ℕ} → (n < m → ⊥) → m ≤ n
least not-less = omega arith

pub least_row : {A : Type 0} {Q : A → Type 0} (m n : ℕ) (x : A) {y : A} → (m ≤ n → Q x) → (n < m gives y else Q) (pick (leb m n) x y)
least_row {A} {Q} m n x {y} f = go (leb m n) refl
  where
    go : (b : Bool) → leb m n ≡ b → (n < m gives y else Q) (pick b x y)
    go true e = fails (enough (leb-true m n e)) (f (leb-true m n e))
    go false e = holds (leb-false m n e)

pub range_row : {A : Type 0} {Q : A → Type 0} (n k : ℕ) (x : A) {y : A} → (1 ≤ k → k ≤ n → Q x) → (((k < 1) ⊎ (n < k)) gives y else Q) (pick (pick (leb 1 k) (leb k n) false) x y)
range_row {A} {Q} n k x {y} f = go (leb 1 k) refl (leb k n) refl
  where
    neither : 1 ≤ k → k ≤ n → (k < 1) ⊎ (n < k) → ⊥
    neither low high (inl h) = enough low h
    neither low high (inr h) = enough high h

    go : (a : Bool) → leb 1 k ≡ a → (b : Bool) → leb k n ≡ b → (((k < 1) ⊎ (n < k)) gives y else Q) (pick (pick a b false) x y)
    go false e b d = holds (inl (leb-false 1 k e))
    go true e false d = holds (inr (leb-false k n d))
    go true e true d = fails (neither (leb-true 1 k e) (leb-true k n d)) (f (leb-true 1 k e) (leb-true k n d))

-- the same test in other words
pub the_same : {A C D : Type 0} {a x : A} {Q : A → Type 0} → (C → D) → (D → C) → (C gives a else Q) x → (D gives a else Q) x
the_same f g (holds c) = holds (f c)
the_same f g (fails n r) = fails (λ d. n (g d)) r

-- a field of w bytes, k bytes behind a place from which on the bytes are d
pub field_row : {A : Type 0} {Q : Answer A → Type 0} (w k : ℕ) (s : List ℕ) (at q : ℕ) {p : ℕ} (f : ℕ → ℕ → Answer A) → 0 < w → p ≡ q → q ≡ at + k →
    ((n : ℕ) → n ≡ at + (k + w) → k + w ≤ length (drop at s) → Q (f (number (take w (drop k (drop at s)))) n)) →
    (length (drop at s) < k + w gives refused (end_at q) else Q) (after (num_at w s p) f)
unfolding field_at after
field_row {A} {Q} w k s at q {p} f some d e on = go (span_at p w s p) (spanned p w s p)
  where
    here : drop p s ≡ drop k (drop at s)
    here = rw (d, e) (sym (drop-drop k at s))

    go : (x : Answer (Unit {0})) → Spanned p w s p x → (length (drop at s) < k + w gives refused (end_at q) else Q) (after (after x λ _ next. got (number (take w (drop p s))) next) f)
    go (got t n) (there h) =
        let within : k + w ≤ length (drop at s) = omega (arith, length-drop at s) in
        rw here (fails (enough within) (on (p + w) (omega arith) within))
    go (refused t) (short h) = rw d (holds (omega (arith, length-drop at s)))

-- ── a header ──

pub header_judged : (s : List ℕ) (at : ℕ) → HeaderSays at (drop at s) (header_at s at)
unfolding header_at header_rest is_kind
header_judged s at =
    let d = drop at s in
    field_row 4 0 s at at _ (lit≤ tt) refl (sym (add-zero at)) λ a ea _.
    field_row 2 4 s at (at + 4) _ (lit≤ tt) ea refl λ b eb _.
    range_row 4 (kind_in d) _ λ _ _.
    field_row 2 6 s at (at + 6) _ (lit≤ tt) eb refl λ c ec _.
    field_row 4 8 s at (at + 8) _ (lit≤ tt) ec refl λ n en _.
    least_row 12 (announced d) _ λ _. till en

-- ── a container ──

-- behind the tests of a header
pub beyond : {A B : Type 0} (at : ℕ) (d : List ℕ) {P : Answer A → Type 0} {Q : Answer B → Type 0} (k : A → ℕ → Answer B) →
    ((x : Answer A) → 12 ≤ length d → 12 ≤ announced d → P x → Q (after x k)) → (x : Answer A) → HeaderTests at d P x → HeaderTests at d Q (after x k)
beyond at d k f =
    goes_on k λ x _. goes_on k (λ x _. goes_on k (λ x _. goes_on k (λ x _. goes_on k (λ x cut. goes_on k (λ x low. f x (least cut) (least low)) x) x) x) x) x

pub container_judged : (s : List ℕ) (at : ℕ) → ContainerSays at (drop at s) (container_at s at)
unfolding container_at after
container_judged s at = beyond at (drop at s) _ rest (header_at s at) (header_judged s at)
  where
    d : List ℕ
    d = drop at s

    rest : (x : Answer Header) → 12 ≤ length d → 12 ≤ announced d → Otherwise (got (header_in d) (at + 12)) x →
        (length d < announced d gives refused (bare SIZE) else Otherwise (got (container_in at d) (at + announced d)))
        (after x λ h start.
        pick (leb h.payload_len (length s - start))
        (got (record { kind = h.kind; code = h.code; number = h.number; payload = record { start = start; count = h.payload_len } }) (start + h.payload_len))
        (refused (bare SIZE)))
    rest x long high otherwise =
        let l = length-drop at s in
        the_same (λ h. omega arith) (λ h. omega arith) (least_row (announced d - 12) (length s - (at + 12)) _ λ _. till (omega arith))

-- ── of the functions' own answers; and no other answer is said of the same bytes ──

module _ (s : List ℕ) (at : ℕ) where
  pub header_says : (r : (Read Header)) → says_read r ≡ header_at s at → HeaderSays at (drop at s) (says_read r)
  header_says r promised = rw promised (header_judged s at)

  pub container_says : (r : (Read Container)) → says_read r ≡ container_at s at → ContainerSays at (drop at s) (says_read r)
  container_says r promised = rw promised (container_judged s at)

one_header : {A : Type 0} (at : ℕ) (d : List ℕ) {P : Answer A → Type 0} → ((x y : Answer A) → P x → P y → x ≡ y) → (x y : Answer A) → HeaderTests at d P x → HeaderTests at d P y → x ≡ y
one_header at d f = one_test (one_test (one_test (one_test (one_test (one_test f)))))

module _ (at : ℕ) (d : List ℕ) where
  pub header_one : (x y : Answer Header) → HeaderSays at d x → HeaderSays at d y → x ≡ y
  header_one = one_header at d one_otherwise

  pub container_one : (x y : Answer Container) → ContainerSays at d x → ContainerSays at d y → x ≡ y
  container_one = one_header at d (one_test one_otherwise)
