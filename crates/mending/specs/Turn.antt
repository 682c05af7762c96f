-- A turn of a program that mends a recording as it comes: what its step is, of bytes that are held and of the state. What a turn does with the
-- window, and what a row of turns gives, is said in `turns`, for any step.
-- Assumes nothing.
use Rattle.std.specs.Prelude.{◌≡◌, ℕ, ◌+◌, ◌-◌, ◌%◌, ◌^◌, Bool, true, List, [], ◌++◌, length, nat_lt}
use Rattle.layout.specs.Answer.{pick}
use Rattle.wire.specs.declared.Part.{Part}
use Rattle.turns.specs.declared.Hold.{Hold}
use Rattle.turns.specs.declared.Next.{Next}
use Rattle.turns.specs.declared.Next.TheVariants as next
use Rattle.turns.specs.Held.{none, joined, fronted}
use Rattle.turns.specs.Turn.{Step, Stepping, Turned}
use Rattle.mending.specs.declared.window.Tally.{Tally}
use Rattle.mending.specs.declared.turn.Stand.{Stand}
use Rattle.mending.specs.declared.turn.Turn.{Turn}
use Rattle.mending.specs.Mended.{starts_of, lengths_of}
use Rattle.mending.specs.Report.{stretch_lines, counts_line}
use Rattle.mending.specs.Window.{fresh, Windowed, window_of}

-- how many bytes the window has, the output and the report; and how many stretches a turn tells
abbrev pub size : ℕ
size = 65536

abbrev pub slots : ℕ
slots = 1024

-- ── where the program stands ──

pub record State : Type 0 where
  pub stretches : ℕ
  pub tally : Tally

abbrev pub state : ℕ → Tally → State
state n t = record { stretches = n; tally = t }

abbrev pub stood : Hold → State → Stand
stood h s = record { hold = h; stretches = s.stretches; tally = s.tally }

abbrev pub begun : Stand
begun = stood none (state 0 fresh)

abbrev pub joins : Stand → ℕ → Stand
joins s n = stood (joined s.hold n) (state s.stretches s.tally)

-- ── a step ──

-- the bytes, the stretches, what is reported, and where the program stands after them
pub record Given : Type 0 where
  pub text : List ℕ
  pub told : List Part
  pub report : List ℕ
  pub end : State

abbrev pub given : List ℕ → List Part → List ℕ → State → Given
given text told report s = record { text = text; told = told; report = report; end = s }

abbrev pub both : Given → Given → Given
both a b = given (a.text ++ b.text) (a.told ++ b.told) (a.report ++ b.report) b.end

abbrev pub after_mending : State → Windowed → State
after_mending s w = state ((s.stretches + length w.told) % 2 ^ 64) w.tally

-- all bytes that are not kept are dropped. Places and counts are kept in 64 bits
abbrev pub last_line : State → List ℕ
last_line s = counts_line s.tally.records s.tally.bytes s.stretches ((s.tally.place + 2 ^ 64 - s.tally.bytes) % 2 ^ 64)

-- the lines of the stretches, and at the end the last
abbrev pub reported : Next → State → List Part → List ℕ
reported next.Again s told = stretch_lines told
reported next.Read s told = []
reported next.Stop s told = last_line s

abbrev pub stepped : Next → State → Windowed → Step State Given
stepped n s w = record { text = given w.text w.told (reported n (after_mending s w) w.told) (after_mending s w); used = w.used; state = after_mending s w; next = n }

-- bytes were used, or a stretch was told
abbrev pub went_on : ℕ → ℕ → Bool
went_on used stretches = pick (nat_lt 0 used) true (nat_lt 0 stretches)

-- by what was mended; where nothing was, the input has ended, or goes on
abbrev pub by_mended : Bool → State → Windowed → Step State Given
by_mended last s w = pick (went_on w.used (length w.told)) (stepped next.Again s w) (pick last (stepped next.Stop s w) (stepped next.Read s w))

unfoldable pub step_of : Stepping State Given
step_of last s h = by_mended last s (window_of last size slots h s.tally)

-- ── what the code answers, and what it leaves ──

abbrev pub turned : ℕ → ℕ → Next → Stand → Turn
turned written reported n s = record { written = written; reported = reported; next = n; stand = s }

pub record Turns (t : Turned State Given) (out starts lengths report : List ℕ) (r : Turn) (window' out' starts' lengths' report' : List ℕ) : Type 0 where
  pub answers : r ≡ turned (length t.text.text) (length t.text.report) t.next (stood t.hold t.state)
  pub keeps : window' ≡ t.window
  pub bytes : out' ≡ fronted t.text.text out
  pub starts_so : starts' ≡ fronted (starts_of t.text.told) starts
  pub lengths_so : lengths' ≡ fronted (lengths_of t.text.told) lengths
  pub tells : report' ≡ fronted t.text.report report
