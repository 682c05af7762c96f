-- The lines of a listing, as bytes. That of a refusal, and how a number is printed, stand in `text`.
-- Assumes nothing.
use Rattle.std.specs.Prelude.{ℕ, List, ◌++◌, ◌==◌}
use Rattle.std.proofs.Math.Option.{Option, some, none}
use Rattle.io.specs.Digits.{last_digits}
use Rattle.layout.specs.Answer.{pick}
use Rattle.names.specs.Names.{spelled, response_name, command_name}
use Rattle.text.specs.Number.{decimal}
use Rattle.wire.specs.declared.container.Container.{Container}
use Rattle.recording.specs.Content.{Content, Record}
use Rattle.recording.specs.Content as content

-- ── parts of a container's line ──

-- like 0x4002
unfoldable pub hex_code : ℕ → List ℕ
hex_code code = spelled "0x" ++ last_digits 16 4 code

-- a record of kind 1 came from the camera, one of kind 2 went to it
unfoldable pub way_text : ℕ → List ℕ
way_text kind = pick (kind == 1) (spelled " in ") (spelled " out ")

unfoldable pub kind_text : ℕ → List ℕ
kind_text kind = pick (kind == 1) (spelled "Command ") (pick (kind == 2) (spelled "Data ") (pick (kind == 3) (spelled "Response ") (spelled "Event ")))

abbrev pub name_or : Option (List ℕ) → List ℕ → List ℕ
name_or (some bs) other = bs
name_or none other = other

-- Command and Data use command names, Response response names; other codes, and all of Event, are hex
unfoldable pub name_for : ℕ → ℕ → Option (List ℕ)
name_for kind code = pick (kind == 3) (response_name code) (pick (kind == 4) none (command_name code))

unfoldable pub code_text : ℕ → ℕ → List ℕ
code_text kind code = name_or (name_for kind code) (hex_code code)

unfoldable pub counts_text : ℕ → ℕ → List ℕ
counts_text number count = spelled " " ++ decimal number ++ spelled " " ++ decimal count ++ spelled "\n"

-- ── lines ──

unfoldable pub heading : List ℕ
heading = spelled "place way kind code tid bytes\n"

unfoldable pub container_line : ℕ → ℕ → Container → List ℕ
container_line place kind x = decimal place ++ way_text kind ++ kind_text x.kind ++ code_text x.kind x.code ++ counts_text x.number x.payload.count

-- a note of an old recording: none is written now
unfoldable pub note_line : ℕ → ℕ → List ℕ
note_line place count = decimal place ++ spelled " old-note " ++ decimal count ++ spelled "\n"

unfoldable pub ending : ℕ → ℕ → List ℕ
ending records count = spelled "records " ++ decimal records ++ spelled " bytes " ++ decimal count ++ spelled "\n"

abbrev pub content_line : ℕ → ℕ → ℕ → Content → List ℕ
content_line place kind count content.note = note_line place count
content_line place kind count (content.holds x) = container_line place kind x

-- of the record at a place
unfoldable pub record_line : ℕ → Record → List ℕ
record_line place x = content_line place x.kind x.body.count x.content
