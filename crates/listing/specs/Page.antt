-- The listing with a note's word as an argument: ` note ` in document 01, ` old-note ` since request 10. All else is the same lines over a row of records.
-- Assumes nothing.
use Rattle.std.specs.Prelude.{ℕ, suc, ◌+◌, List, [], ◌∷◌, ◌++◌, ◌≢◌}
use Rattle.layout.specs.Answer.{Answer, got, refused}
use Rattle.names.specs.Names.{spelled}
use Rattle.recording.specs.Content.{Content, Record}
use Rattle.recording.specs.Content as content
use Rattle.text.specs.Number.{decimal}
use Rattle.text.specs.Lines.{refusal_line}
use Rattle.listing.specs.Lines.{heading, container_line, ending}

abbrev pub line_by : List ℕ → ℕ → ℕ → ℕ → Content → List ℕ
line_by word place kind count content.note = decimal place ++ word ++ decimal count ++ spelled "\n"
line_by word place kind count (content.holds x) = container_line place kind x

abbrev pub lines_by : List ℕ → ℕ → ℕ → List (Answer Record) → List ℕ
lines_by word place records [] = ending records place
lines_by word place records (got x n ∷ rest) = line_by word place x.kind x.body.count x.content ++ lines_by word (place + n) (suc records) rest
lines_by word place records (refused t ∷ rest) = refusal_line place t ++ ending records place

unfoldable pub page_by : List ℕ → List (Answer Record) → List ℕ
page_by word row = heading ++ lines_by word 0 0 row

-- the two words
unfoldable pub note_word : List ℕ
note_word = spelled " note "

unfoldable pub old_note_word : List ℕ
old_note_word = spelled " old-note "

-- a row in which no note stands
abbrev pub NoNote : List (Answer Record) → Type 0
NoNote [] = Unit {0}
NoNote (got x n ∷ rest) = (x.content ≢ content.note) × NoNote rest
NoNote (refused t ∷ rest) = Unit {0}
