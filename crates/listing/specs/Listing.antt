-- The listing of a recording, whole: heading, a line a record, a line for the refusal that ends it, and the last line.
-- Assumes nothing.
use Rattle.std.specs.Prelude.{ℕ, suc, ◌+◌, List, [], ◌∷◌, ◌++◌}
use Rattle.layout.specs.Answer.{Answer, got, refused}
use Rattle.recording.specs.Content.{Record}
use Rattle.recording.specs.Row.{records_in}
use Rattle.text.specs.Lines.{refusal_line}
use Rattle.listing.specs.Lines.{heading, record_line, ending}

-- a line for each that is found, the first of them at a place; and the last line, which counts the whole records, with their headers,
-- and their bytes, after those that stand before
abbrev pub lines_of : ℕ → ℕ → List (Answer Record) → List ℕ
lines_of place records [] = ending records place
lines_of place records (got x n ∷ rest) = record_line place x ++ lines_of (place + n) (suc records) rest
lines_of place records (refused t ∷ rest) = refusal_line place t ++ ending records place

-- what is left to print, at a place of the recording with the bytes s from there on, after so many records
unfoldable pub remaining : ℕ → ℕ → List ℕ → List ℕ
remaining place records s = lines_of place records (records_in s)

unfoldable pub listing : List ℕ → List ℕ
listing s = heading ++ remaining 0 0 s
