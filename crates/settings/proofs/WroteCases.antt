-- A writer's promise, by what was due: the answer and the output, in each of the three cases.
-- Assumes nothing.
use mathlib.Core.Path.{◌≡◌, ◌∙◌}
use mathlib.Core.List.{List, ◌++◌}
use Prim.Native.Nat.{ℕ, ◌≤◌, ◌<◌}
use borrow.Author.Tests.{le-leb, lt-leb}
use lib.ListN.{length, drop}
use Rattle.layout.specs.Answer.{Told, Answer, got, refused, bare}
use Rattle.layout.specs.Refusals.{ROOM}
use Rattle.layout.specs.Written.{Said, says, no, answer_of, left_of, Wrote}

module _ {s : Said} {old new : List ℕ} {answer : Answer (Unit {0})} (promised : Wrote s old answer new) where
  -- a refusal, and the output as it was
  pub refuses : {t : Told} → s ≡ no t → (answer ≡ refused t) × (new ≡ old)
  unfolding answer_of left_of
  refuses i = (promised.answers ∙ rw i, promised.leaves ∙ rw i)

  pub short_of : {v : List ℕ} → s ≡ says v → length old < length v → (answer ≡ refused (bare ROOM)) × (new ≡ old)
  unfolding answer_of left_of
  short_of {v} i l = let f = lt-leb (length v) (length old) l in (promised.answers ∙ rw (i, f), promised.leaves ∙ rw (i, f))

  pub fits_in : {v : List ℕ} → s ≡ says v → length v ≤ length old → (answer ≡ got tt (length v)) × (new ≡ v ++ drop (length v) old)
  unfolding answer_of left_of
  fits_in {v} i l = let f = le-leb (length v) (length old) l in (promised.answers ∙ rw (i, f), promised.leaves ∙ rw (i, f))
