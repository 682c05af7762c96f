-- What is answered of a record's bytes, said with no reader: each refusal by its condition on the bytes, in the paper's order (1 for six bytes, 13, 14, 1 for the body; then,
-- of the body of a record that is no note, the container's own and 3), and what is accepted.
-- Bytes that follow change an answer only where the record is cut: in its six bytes or in its body, which gives 1. Every other answer is final, the container's 1 and 6 in
-- a body that is whole too: what follows the record is none of the body's.
-- Assumes nothing.
use Rattle.std.specs.Prelude.{◌≡◌, Bool, true, false, ◌⊎◌, List, ℕ, ◌-◌, ◌≤◌, ◌<◌, length, take, drop}
use Rattle.layout.specs.Answer.{Answer, got, refused, end_at, bare}
use Rattle.layout.specs.Refusals.{TRAIL, RECORD, LONG}
use Rattle.wire.specs.Tests.{◌gives◌else◌, Otherwise}
use Rattle.wire.specs.Refused.{announced, kind_in, ContainerTests, container_in}
use Rattle.recording.specs.Record.{limit}
use Rattle.recording.specs.Content.{Content, Record}
use Rattle.recording.specs.Content as content

-- ── the tests of a record's head, and what is said after them ──

-- a record begins as a container does: with its length and its kind
abbrev pub HeadTests : {A : Type 0} → List ℕ → (Answer A → Type 0) → Answer A → Type 0
HeadTests s rest =
    length s < 4 gives refused (end_at 0) else
    length s < 6 gives refused (end_at 4) else
    ((announced s < 6) ⊎ (kind_in s < 1) ⊎ (3 < kind_in s)) gives refused (bare RECORD) else
    limit < announced s - 6 gives refused (bare LONG) else
    length s < announced s gives refused (end_at 6) else
    rest

-- ── of a record, by what its body holds ──

-- the rest is its body
abbrev pub body_in : List ℕ → List ℕ
body_in s = take (announced s - 6) (drop 6 s)

abbrev pub record_in : List ℕ → Content → Record
record_in s c = record { kind = kind_in s; body = record { start = 6; count = announced s - 6 }; content = c }

-- the container must fill the body
abbrev pub FilledSays : List ℕ → Answer Record → Type 0
FilledSays s =
    announced (body_in s) < length (body_in s) gives refused (bare TRAIL) else
    Otherwise (got (record_in s (content.holds (container_in 6 (body_in s)))) (announced s))

-- a note is any bytes
abbrev pub ContentSays : List ℕ → Answer Record → Type 0
ContentSays s =
    kind_in s ≡ 3 gives got (record_in s content.note) (announced s) else
    ContainerTests 6 (body_in s) (FilledSays s)

abbrev pub RecordSays : List ℕ → Answer Record → Type 0
RecordSays s = HeadTests s (ContentSays s)

-- ── bytes that follow ──

-- fewer than six; or fewer than announced, where neither 13 nor 14 is given
pub data Cut (s : List ℕ) : Type 0 where
  in_front : length s < 6 → Cut s
  in_body : 6 ≤ length s → 6 ≤ announced s → 1 ≤ kind_in s → kind_in s ≤ 3 → announced s - 6 ≤ limit → length s < announced s → Cut s

-- whether bytes that follow may change what is found, as `read_front` has it
abbrev pub CutSays : List ℕ → Bool → Type 0
CutSays s = Cut s gives true else Otherwise false
