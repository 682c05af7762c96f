-- The reader of records by the meaning of its places, and the word of a reading. That both are faithful to the layout is proved in proofs/Records.
-- Assumes nothing.
use Rattle.std.specs.Prelude.{List, [], ◌∷◌, ℕ, ◌+◌}
use Rattle.layout.specs.Answer.{means}
use Rattle.layout.specs.Codec.{Codec}
use Rattle.wire.specs.Codecs.{box_in, box_parts, box_word}
use Rattle.wire.specs.Returned.{part_of}
use Rattle.recording.specs.Content as content
use Rattle.recording.specs.Content.{Content}
use Rattle.recording.specs.Layout.{Entry, holds, note}
use Rattle.recording.specs.Record.{record_at, record_word}

-- ── what the places of a record mean ──

abbrev pub entry_of : ℕ → List ℕ → List ℕ → Content → Entry
entry_of kind s body content.note = note body
entry_of kind s body (content.holds x) = holds kind (box_in s x)

abbrev pub entry_in : List ℕ → content.Record → Entry
entry_in s x = entry_of x.kind s (part_of s x.body) x.content

-- ── from where to where its body stands and, of a container, the payload ──

abbrev pub content_parts : Content → List (ℕ × ℕ)
content_parts content.note = []
content_parts (content.holds x) = box_parts x

abbrev pub record_parts : content.Record → List (ℕ × ℕ)
record_parts x = (x.body.start, x.body.start + x.body.count) ∷ content_parts x.content

-- ── its word ──

abbrev pub entry_word : Entry → List ℕ
entry_word (holds kind x) = record_word kind (box_word x)
entry_word (note w) = record_word 3 w

abbrev pub entry : Codec Entry
entry = record { read = λ s at. means (entry_in s) (record_at s at); write = entry_word }
