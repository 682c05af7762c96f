-- What `read_recording` answers; and what can be said of the records of a recording, one after the other.
-- Assumes nothing.
use Rattle.std.specs.Prelude.{Ok, Err}
use Rattle.wire.specs.Read.{Read}
use Rattle.std.specs.Prelude.{◌≡◌, List, [], ◌∷◌, ◌++◌, ℕ, ◌^◌, ◌<◌, length, take, drop}
use Rattle.layout.specs.Answer.{Told, Answer, got, refused}
use Rattle.layout.specs.Bytes.{Bytes}
use Rattle.layout.specs.Grammar.{loose}
use Rattle.layout.specs.Placed.{Inside}
use Rattle.layout.specs.Written.{says}
use Rattle.wire.specs.Container.{container_said}
use Rattle.wire.specs.Layout.{Box}
use Rattle.recording.specs.Codecs.{record_parts}
use Rattle.recording.specs.Content.{Record}
use Rattle.recording.specs.Copied.{move_told}
use Rattle.recording.specs.Layout.{Entry, holds, note, Recording}
use Rattle.recording.specs.Record.{record_at, record_said}
use Rattle.recording.specs.Refused.{RecordSays}

-- ── as `read_record_at` reads them ──

-- from a place up to n: each begins where the one before it ends, and its parts lie in it
pub data Follows (s : List ℕ) : ℕ → List Record → ℕ → Type 0 where
  no_more : {at : ℕ} → Follows s at [] at
  and_then : {at : ℕ} {x : Record} {xs : List Record} {next n : ℕ} → record_at s at ≡ got x next → at < next → Inside at next (record_parts x) → Follows s next xs n → Follows s at (x ∷ xs) n

-- ── the first that is refused ──

-- the bytes before it are a recording; its own refusal is by the conditions on its bytes, and is told of the place in the recording
pub record Stops (s : List ℕ) (t : Told) : Type 0 where
  pub place : ℕ
  pub entries : List Entry
  pub sound : Recording loose (take place s) entries
  pub more : place < length s
  pub own : Told
  pub refusal : RecordSays (drop place s) (refused own)
  pub told : t ≡ move_told place own

-- ── as `write_container` and `write_record` write them ──

-- numbers and bytes as their types have them
pub record Typed (b : Box) : Type 0 where
  pub code : b.code < 256 ^ 2
  pub number : b.number < 256 ^ 4
  pub payload : Bytes b.payload

-- one after the other. A note is not written
pub data Writes : List Entry → List ℕ → Type 0 where
  nothing : Writes [] []
  and_one : {kind : ℕ} {b : Box} {v w ws : List ℕ} {xs : List Entry} → Typed b → container_said b.kind b.code b.number b.payload ≡ says v → record_said kind v ≡ says w → Writes xs ws → Writes (holds kind b ∷ xs) (w ++ ws)

-- none is a note
abbrev pub NoNotes : List Entry → Type 0
NoNotes [] = Unit {0}
NoNotes (holds kind b ∷ xs) = NoNotes xs
NoNotes (note w ∷ xs) = ⊥
