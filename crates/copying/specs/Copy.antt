-- What a program gives that copies a whole recording: the copy of the whole records at its front; how many bytes they have, and what was left
-- out of them; and the line that it reports, by how it ends behind them.
-- Assumes nothing.
use Rattle.std.specs.Prelude.{◌≡◌, ℕ, ◌+◌, List, length, take, drop}
use Rattle.layout.specs.Answer.{Told, got, refused}
use Rattle.layout.specs.Written.{says, no}
use Rattle.recording.specs.Record.{record_of}
use Rattle.recording.specs.Row.{whole_of}
use Rattle.recording.specs.Copied.{copy_said, left_out, front_text, front_left, move_told}
use Rattle.recording.specs.declared.copy.Left.{Left}
use Rattle.copying.specs.declared.Tally.{Tally}
use Rattle.copying.specs.declared.Fate.TheVariants as fate
use Rattle.copying.specs.Turn.{tally, fate_of, Given, given}

-- of the bytes s, from a tally on
abbrev pub copied_from : Tally → List ℕ → Given
copied_from t s = given (front_text s) (fate_of (drop (whole_of s) s)) (tally (t.place + whole_of s) (t.records + (front_left s).records) (t.bytes + (front_left s).bytes))

-- as the copy of a recording that is lent whole has it
pub data Copying (s : List ℕ) : Given → Type 0 where
  -- all is copied
  all_copied : {w : List ℕ} {l : Left} → copy_said s ≡ says w → left_out s ≡ got l (length s) → Copying s (given w fate.Whole (tally (length s) l.records l.bytes))
  -- a record is refused, and those before it, of n bytes, are copied
  one_refused : {w : List ℕ} {l : Left} {n : ℕ} {t : Told} → refused t ≡ record_of (drop n s) → copy_said s ≡ no (move_told n t) → copy_said (take n s) ≡ says w → left_out (take n s) ≡ got l n →
      Copying s (given w (fate.Refused t) (tally n l.records l.bytes))
