-- A turn of a program that copies a recording as it comes: what its step is, of bytes that are held and of the tally. What a turn does with the
-- window, and what a row of turns gives, is said in `turns`, for any step.
-- Assumes nothing.
use Rattle.std.specs.Prelude.{◌≡◌, ℕ, ◌+◌, ◌%◌, ◌^◌, Bool, List, ◌++◌, length, nat_lt}
use Rattle.layout.specs.Answer.{Answer, got, refused, pick}
use Rattle.turns.specs.declared.Hold.{Hold}
use Rattle.turns.specs.declared.Next.{Next}
use Rattle.turns.specs.declared.Next.TheVariants as next
use Rattle.turns.specs.Held.{none, joined, fronted}
use Rattle.turns.specs.Turn.{Step, Stepping, Turned}
use Rattle.recording.specs.Content.{Record}
use Rattle.recording.specs.Record.{record_of}
use Rattle.recording.specs.Row.{whole_of, waits}
use Rattle.recording.specs.Copied.{front_text, front_left}
use Rattle.recording.specs.declared.copy.Left.{Left}
use Rattle.copying.specs.declared.Tally.{Tally}
use Rattle.copying.specs.declared.Fate.{Fate}
use Rattle.copying.specs.declared.Fate.TheVariants as fate
use Rattle.copying.specs.declared.Stand.{Stand}
use Rattle.copying.specs.declared.Turn.{Turn}
use Rattle.copying.specs.declared.Outcome.{Outcome}
use Rattle.copying.specs.Report.{report_of}

-- how many bytes the window has, and the output
abbrev pub size : ℕ
size = 65536

-- ── where the program stands ──

abbrev pub tally : ℕ → ℕ → ℕ → Tally
tally place records bytes = record { place = place; records = records; bytes = bytes }

abbrev pub fresh : Tally
fresh = tally 0 0 0

abbrev pub stood : Hold → Tally → Stand
stood h t = record { hold = h; tally = t }

abbrev pub begun : Stand
begun = stood none fresh

abbrev pub joins : Stand → ℕ → Stand
joins s n = stood (joined s.hold n) s.tally

-- past n bytes, of which so much was left out. Places and counts are kept in 64 bits
abbrev pub passed : Tally → ℕ → Left → Tally
passed t n l = tally ((t.place + n) % 2 ^ 64) ((t.records + l.records) % 2 ^ 64) ((t.bytes + l.bytes) % 2 ^ 64)

-- ── how the copy ends ──

abbrev pub end_of : Answer Record → Fate
end_of (got x n) = fate.Going
end_of (refused t) = fate.Refused t

-- with these bytes: a record that is refused stands at their front, or they are none
unfoldable pub fate_of : List ℕ → Fate
fate_of s = pick (nat_lt 0 (length s)) (end_of (record_of s)) fate.Whole

-- ── a step ──

-- the bytes that are copied, what is reported, and the tally then
pub record Given : Type 0 where
  pub text : List ℕ
  pub report : List ℕ
  pub end : Tally

-- with the report of how the copy ended, if it has
abbrev pub given : List ℕ → Fate → Tally → Given
given text f t = record { text = text; report = report_of f t; end = t }

abbrev pub both : Given → Given → Given
both a b = record { text = a.text ++ b.text; report = a.report ++ b.report; end = b.end }

-- the whole records at the front are copied
abbrev pub stepped : Fate → Next → Tally → List ℕ → Step Tally Given
stepped f n t h = record { text = given (front_text h) f (passed t (whole_of h) (front_left h)); used = whole_of h; state = passed t (whole_of h) (front_left h); next = n }

-- where there are none, more has to come, or the copy ends
abbrev pub by_front : Bool → Tally → List ℕ → Step Tally Given
by_front last t h = pick (nat_lt 0 (whole_of h)) (stepped fate.Going next.Again t h) (pick (waits last h) (stepped fate.Going next.Read t h) (stepped (fate_of h) next.Stop t h))

unfoldable pub step_of : Stepping Tally Given
step_of last t h = by_front last t h

-- ── what the code answers, and what it leaves ──

-- of bytes at whose front no whole record stands
abbrev pub outcome_of : Bool → List ℕ → Outcome
outcome_of last s = record { waits = waits last s; fate = fate_of s }

abbrev pub turned : ℕ → ℕ → Next → Stand → Turn
turned written reported n s = record { written = written; reported = reported; next = n; stand = s }

pub record Turns (t : Turned Tally Given) (out report : List ℕ) (r : Turn) (window' out' report' : List ℕ) : Type 0 where
  pub answers : r ≡ turned (length t.text.text) (length t.text.report) t.next (stood t.hold t.state)
  pub leaves : out' ≡ fronted t.text.text out
  pub tells : report' ≡ fronted t.text.report report
  pub keeps : window' ≡ t.window
