-- The reader of a tool with another limit, so that what an older tool found can be told: the record reader and the row of records with the longest body as an argument.
-- At `limit` they are `record_of` and `records_in` (proofs/laws/Older).
-- Assumes nothing.
use Rattle.std.specs.Prelude.{◌≡◌, true, List, [], ◌∷◌, ℕ, zero, suc, ◌-◌, ◌≤◌, ◌<◌, leb, ltb, length, take, drop}
use Rattle.layout.specs.Answer.{Told, Answer, got, refused, Reader, pick, after, means, bare, span_at}
use Rattle.layout.specs.Refusals.{RECORD, LONG}
use Rattle.wire.specs.Places.{num_at}
use Rattle.wire.specs.Refused.{announced, kind_in}
use Rattle.recording.specs.Content.{Record}
use Rattle.recording.specs.Record.{begins, content_at}
use Rattle.recording.specs.Row.{followed}
use Rattle.recording.specs.declared.Head.{Head}

-- the limit of document 01, before request 4
abbrev pub older_limit : ℕ
older_limit = 8192

unfoldable pub body_up_to : ℕ → ℕ → ℕ → Reader Head
body_up_to most len kind s start =
    pick (begins len kind)
    (pick (leb (len - 6) most)
    (means (λ _. record { kind = kind; body = record { start = start; count = len - 6 } }) (span_at start (len - 6) s start))
    (refused (bare LONG)))
    (refused (bare RECORD))

unfoldable pub head_up_to : ℕ → List ℕ → Answer Head
head_up_to most s =
    after (num_at 4 s 0) λ len a.
    after (num_at 2 s a) λ kind start.
    body_up_to most len kind s start

unfoldable pub record_up_to : ℕ → List ℕ → Answer Record
record_up_to most s =
    after (head_up_to most s) λ h end.
    means (λ c. record { kind = h.kind; body = h.body; content = c }) (content_at h.kind (take end s) h.body.start)

unfoldable pub found_up_to : ℕ → ℕ → List ℕ → List (Answer Record)
found_up_to most zero s = []
found_up_to most (suc fuel) s = pick (ltb 0 (length s)) (followed (record_up_to most s) (λ n. found_up_to most fuel (drop n s))) []

unfoldable pub records_up_to : ℕ → List ℕ → List (Answer Record)
records_up_to most s = found_up_to most (length s) s

-- ── what it refuses with LONG, said with no reader ──

-- the six bytes are there, length and kind are right, and a body is announced that is over the limit
pub record LongAnnounced (most : ℕ) (s : List ℕ) : Type 0 where
  pub six : 6 ≤ length s
  pub right : begins (announced s) (kind_in s) ≡ true
  pub over : most < announced s - 6

-- ── how a row ends ──

-- every record was read: no refusal ends it
pub data AllRead : List (Answer Record) → Type 0 where
  none : AllRead []
  one_more : {x : Record} {n : ℕ} {row : List (Answer Record)} → AllRead row → AllRead (got x n ∷ row)

-- this refusal ends it
pub data EndsWith (t : Told) : List (Answer Record) → Type 0 where
  here : EndsWith t (refused t ∷ [])
  after_one : {x : Answer Record} {row : List (Answer Record)} → EndsWith t row → EndsWith t (x ∷ row)
