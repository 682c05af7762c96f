-- What reading a row of records finds, record by record.
-- Assumes nothing.
use Rattle.std.specs.Prelude.{◌≡◌, Bool, true, false, List, [], ◌∷◌, ℕ, zero, suc, ltb, eqb, length, drop}
use Rattle.layout.specs.Answer.{Answer, got, refused, Reader, pick, after, means}
use Rattle.layout.specs.Refusals.{END}
use Rattle.recording.specs.Content.{Record}
use Rattle.recording.specs.Record.{head_at, head_of, record_at, record_of, record_from}
use Rattle.recording.specs.declared.ReadFront.{ReadFront}
use Rattle.recording.specs.declared.ReadFront.TheVariants as readFront

-- a whole record is followed by what is found after it; a refusal is the last
abbrev pub followed : Answer Record → (ℕ → List (Answer Record)) → List (Answer Record)
followed (got x n) rest = got x n ∷ rest n
followed (refused t) rest = refused t ∷ []

-- at most `fuel` of them
unfoldable pub found : ℕ → List ℕ → List (Answer Record)
found zero s = []
found (suc fuel) s = pick (ltb 0 (length s)) (followed (record_of s) (λ n. found fuel (drop n s))) []

-- each record takes bytes, so there are no more than the bytes are
unfoldable pub records_in : List ℕ → List (Answer Record)
records_in s = found (length s) s

-- ── the records from end to end ──

-- at most `fuel` of them, from a place on; or the first refusal
unfoldable pub row_from : ℕ → Reader (List Record)
row_from zero s at = got [] at
row_from (suc fuel) s at = pick (ltb at (length s)) (after (record_at s at) λ x n. means (λ xs. x ∷ xs) (row_from fuel s n)) (got [] at)

unfoldable pub row_of : List ℕ → Answer (List Record)
row_of s = row_from (length s) s 0

-- where the record ends that an answer is of; that of no record goes no further
abbrev pub onward : ℕ → Answer Record → (ℕ → ℕ) → ℕ
onward at (got x n) rest = rest n
onward at (refused t) rest = at

-- up to where records stand that are accepted
unfoldable pub whole_from : ℕ → List ℕ → ℕ → ℕ
whole_from zero s at = at
whole_from (suc fuel) s at = pick (ltb at (length s)) (onward at (record_at s at) (λ n. whole_from fuel s n)) at

-- so many bytes at the front
unfoldable pub whole_of : List ℕ → ℕ
whole_of s = whole_from (length s) s 0

-- ── a record that is cut: bytes that follow may change what is found ──

abbrev pub is_end : {A : Type 0} → Answer A → Bool
is_end (got a n) = false
is_end (refused t) = eqb t.no END

-- its six bytes are not all there, or, where these begin a record, its body is not
unfoldable pub is_cut : List ℕ → Bool
is_cut s = is_end (head_of s)

-- unless no bytes follow
unfoldable pub waits : Bool → List ℕ → Bool
waits last s = pick last false (is_cut s)

-- by the number of the head's refusal
abbrev pub waits_for : Bool → ℕ → Bool
waits_for last number = pick last false (eqb number END)

-- ── this paper's values for each case ──

abbrev pub says_front : ReadFront → Answer Record
says_front (readFront.Got x c) = got (record_from x) c.at
says_front (readFront.Refused t) = refused t
says_front (readFront.Cut t) = refused t

abbrev pub may_change : ReadFront → Bool
may_change (readFront.Got x c) = false
may_change (readFront.Refused t) = false
may_change (readFront.Cut t) = true

-- the record at a place, and whether bytes that follow may change what is found
pub record Finds (last : Bool) (s : List ℕ) (at : ℕ) (r : ReadFront) : Type 0 where
  pub answer : says_front r ≡ record_at s at
  pub waiting : may_change r ≡ pick last false (is_end (head_at s at))
