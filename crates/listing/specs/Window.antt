-- What is listed of a window of the recording: a line for each whole record in it, while there is room for the longest line.
-- Assumes nothing.
use Rattle.std.specs.Prelude.{◌≡◌, ℕ, zero, suc, ◌+◌, ◌-◌, ◌%◌, ◌^◌, Bool, true, false, List, [], ◌++◌, length, drop, nat_le, nat_lt}
use Rattle.layout.specs.Answer.{Answer, got, refused, pick}
use Rattle.recording.specs.Content.{Record}
use Rattle.recording.specs.Record.{record_of}
use Rattle.recording.specs.Row.{waits}
use Rattle.listing.specs.declared.Listed.{Listed}
use Rattle.text.specs.Lines.{refusal_line}
use Rattle.listing.specs.Lines.{record_line}

-- room that any line has
abbrev pub line_room : ℕ
line_room = 128

-- the text, the bytes used of the window, the place and the number of records after it, and whether a refusal ended the listing
pub record Windowed : Type 0 where
  pub text : List ℕ
  pub used : ℕ
  pub place : ℕ
  pub records : ℕ
  pub stopped : Bool

-- nothing more of this window
abbrev pub rests : ℕ → ℕ → Windowed
rests place records = record { text = []; used = 0; place = place; records = records; stopped = false }

-- a line and the bytes of its record, before what follows
abbrev pub after_line : List ℕ → ℕ → Windowed → Windowed
after_line line n w = record { text = line ++ w.text; used = n + w.used; place = w.place; records = w.records; stopped = w.stopped }

-- what is found at the front of the bytes, and what follows it
abbrev pub lined : ℕ → ℕ → Answer Record → (List ℕ → ℕ → Windowed) → Windowed
lined place records (got x n) rest = after_line (record_line place x) n (rest (record_line place x) n)
lined place records (refused t) rest = record { text = refusal_line place t; used = 0; place = place; records = records; stopped = true }

-- no byte is left, or the record waits for bytes that follow the window
unfoldable pub pauses : Bool → List ℕ → Bool
pauses last s = pick (nat_lt 0 (length s)) (waits last s) true

-- at most `fuel` records. Places and counts are kept in 64 bits
unfoldable pub window_from : ℕ → Bool → ℕ → List ℕ → ℕ → ℕ → Windowed
window_from zero last room s place records = rests place records
window_from (suc fuel) last room s place records =
    pick (nat_le line_room room)
    (pick (pauses last s) (rests place records)
    (lined place records (record_of s) λ line n. window_from fuel last (room - length line) (drop n s) ((place + n) % 2 ^ 64) ((records + 1) % 2 ^ 64)))
    (rests place records)

-- each record takes bytes, so there are no more than the bytes are
unfoldable pub window_of : Bool → ℕ → List ℕ → ℕ → ℕ → Windowed
window_of last room s place records = window_from (length s) last room s place records

abbrev pub answered : ℕ → ℕ → ℕ → ℕ → Bool → Listed
answered used written place records stopped = record { used = used; written = written; tally = record { place = place; records = records }; stopped = stopped }

-- what the code answers, and what it leaves: the text at the front, and all past it as it was
abbrev pub listed_of : Windowed → Listed
listed_of w = answered w.used (length w.text) w.place w.records w.stopped

pub record Lists (w : Windowed) (old : List ℕ) (r : Listed) (new : List ℕ) : Type 0 where
  pub answers : r ≡ listed_of w
  pub leaves : new ≡ w.text ++ drop (length w.text) old
