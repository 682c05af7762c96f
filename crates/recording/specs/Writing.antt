-- What the writer and a copy answer, by the paper's words: no test of a kind stands here. A recording's records, or its refusal, are what `row_of` reads, record by record (`record_says`).
-- Assumes nothing.
use Rattle.std.specs.Prelude.{◌≡◌, List, [], ◌∷◌, ◌++◌, ℕ, ◌+◌, ◌-◌, ◌≤◌, ◌<◌, length, take, drop}
use Rattle.layout.specs.Answer.{Told, Answer, got, refused, bare}
use Rattle.layout.specs.Refusals.{TRAIL, ROOM, RECORD, LONG}
use Rattle.wire.specs.Refused.{announced, ContainerTests}
use Rattle.wire.specs.Tests.{◌gives◌else◌, Otherwise}
use Rattle.wire.specs.declared.container.Container.{Container}
use Rattle.recording.specs.Content.{Record}
use Rattle.recording.specs.Content as content
use Rattle.recording.specs.Record.{limit}
use Rattle.recording.specs.Row.{row_of}
use Rattle.recording.specs.declared.copy.Left.{Left}

-- ── the writer: 13 for every kind but those from the camera and to it, 14, then the body as the one container that it must be, and 9 ──

abbrev pub WriterSays : ℕ → List ℕ → List ℕ → Answer (Unit {0}) → Type 0
WriterSays kind body old =
    (kind ≡ 1 → ⊥) × (kind ≡ 2 → ⊥) gives refused (bare RECORD) else
    limit < length body gives refused (bare LONG) else
    ContainerTests 0 body (
    announced body < length body gives refused (bare TRAIL) else
    length old < 6 + length body gives refused (bare ROOM) else
    Otherwise (got tt (6 + length body)))

-- ── a copy ──

-- the bytes of a record, with the six before its body
abbrev pub whole_record : List ℕ → Record → List ℕ
whole_record s x = take (6 + x.body.count) (drop (x.body.start - 6) s)

-- of these records: the bytes of those whose body is a container, in order; and how many notes there are, with their bytes, headers included
pub data Copying (s : List ℕ) : List Record → List ℕ → ℕ → ℕ → Type 0 where
  no_more : Copying s [] [] 0 0
  a_container : {x : Record} {xs : List Record} {w : List ℕ} {records bytes : ℕ} (c : Container) → x.content ≡ content.holds c → Copying s xs w records bytes → Copying s (x ∷ xs) (whole_record s x ++ w) records bytes
  a_note : {x : Record} {xs : List Record} {w : List ℕ} {records bytes : ℕ} → x.content ≡ content.note → Copying s xs w records bytes → Copying s (x ∷ xs) w (1 + records) (6 + x.body.count + bytes)

-- the recording's own refusal; then 9 exactly where the output is shorter than the kept bytes; else what was left out and the number of bytes, which stand at the front
pub data CopySays (s old : List ℕ) : Answer Left → List ℕ → Type 0 where
  unread : {t : Told} → row_of s ≡ refused t → CopySays s old (refused t) old
  no_room : {xs : List Record} {m : ℕ} {w : List ℕ} {records bytes : ℕ} → row_of s ≡ got xs m → Copying s xs w records bytes → length old < length w → CopySays s old (refused (bare ROOM)) old
  copied : {xs : List Record} {m : ℕ} {w : List ℕ} {records bytes : ℕ} → row_of s ≡ got xs m → Copying s xs w records bytes → length w ≤ length old →
      CopySays s old (got (record { records = records; bytes = bytes }) (length w)) (w ++ drop (length w) old)
