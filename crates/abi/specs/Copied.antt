-- A recording copied without its notes: the copy in one output, and in the other how many records and bytes were left out.
-- Assumes nothing.
use Rattle.std.specs.Prelude.{◌≡◌, ℕ, List, ◌∷◌, length, drop, nat_le}
use Rattle.layout.specs.Answer.{Answer, got, refused, bare, pick, after}
use Rattle.layout.specs.Refusals.{ROOM}
use Rattle.layout.specs.Written.{left_of}
use Rattle.recording.specs.Copied.{copy_said, left_out, copy_of}
use Rattle.recording.specs.declared.copy.Left.{Left}

-- the recording's own refusal, else 9
unfoldable pub unroomed : {A : Type 0} → List ℕ → Answer A
unroomed s = after (left_out s) λ _ _. refused (bare ROOM)

-- 9 for either output: the two numbers need room as the copy does
unfoldable pub copied_into : List ℕ → List ℕ → List ℕ → Answer Left
copied_into s out left = pick (nat_le 2 (length left)) (copy_of s out) (unroomed s)

-- what a refusal leaves as it was
abbrev pub unless_refused : {A : Type 0} → Answer A → (A → List ℕ) → List ℕ → List ℕ
unless_refused (got a n) new old = new a
unless_refused (refused t) new old = old

pub record CopiesInto (s out left out' left' : List ℕ) (answer : Answer Left) : Type 0 where
  pub answers : answer ≡ copied_into s out left
  pub leaves : out' ≡ unless_refused answer (λ _. left_of (copy_said s) out) out
  pub counts : left' ≡ unless_refused answer (λ l. l.records ∷ l.bytes ∷ drop 2 left) left
