-- A turn of a program that lists a recording as it comes: what its step is, of bytes that are held and of the state. What a turn does with the
-- window, and what a row of turns gives, is said in `turns`, for any step.
-- Assumes nothing.
use Rattle.std.specs.Prelude.{◌≡◌, ℕ, Bool, List, length, nat_lt}
use Rattle.layout.specs.Answer.{pick}
use Rattle.turns.specs.declared.Hold.{Hold}
use Rattle.turns.specs.declared.Next.{Next}
use Rattle.turns.specs.declared.Next.TheVariants as next
use Rattle.turns.specs.Held.{none, joined, rest, fronted}
use Rattle.turns.specs.Turn.{Step, Stepping, Turned, by_step}
use Rattle.listing.specs.declared.Tally.{Tally}
use Rattle.listing.specs.declared.turn.Stage.{Stage}
use Rattle.listing.specs.declared.turn.Stage.TheVariants as stage
use Rattle.listing.specs.declared.turn.Stand.{Stand}
use Rattle.listing.specs.declared.turn.Turn.{Turn}
use Rattle.listing.specs.Lines.{heading, ending}
use Rattle.listing.specs.Window.{Windowed, window_of}

-- how many bytes the window has, and the output
abbrev pub size : ℕ
size = 65536

-- ── where the program stands ──

pub record State : Type 0 where
  pub stage : Stage
  pub tally : Tally

abbrev pub state : Stage → Tally → State
state g t = record { stage = g; tally = t }

abbrev pub stood : Hold → State → Stand
stood h s = record { hold = h; stage = s.stage; tally = s.tally }

abbrev pub fresh : State
fresh = state stage.Heading (record { place = 0; records = 0 })

abbrev pub begun : Stand
begun = stood none fresh

abbrev pub joins : Stand → ℕ → Stand
joins s n = stood (joined s.hold n) (state s.stage s.tally)

-- ── a step ──

abbrev pub stepped : Stage → Next → Windowed → Step State (List ℕ)
stepped g n w = record { text = w.text; used = w.used; state = state g (record { place = w.place; records = w.records }); next = n }

-- by what was listed: a refusal ends the lines, and so does the end of the input where nothing is left; else more may be listed, or has to come
abbrev pub by_listed : Bool → Windowed → Step State (List ℕ)
by_listed last w =
    pick w.stopped (stepped stage.Ending next.Again w)
    (pick (nat_lt 0 w.used) (stepped stage.Lines next.Again w)
    (pick last (stepped stage.Ending next.Again w) (stepped stage.Lines next.Read w)))

unfoldable pub lines_of : Bool → Tally → List ℕ → Step State (List ℕ)
lines_of last t h = by_listed last (window_of last size h t.place t.records)

abbrev pub step_at : Stage → Bool → Tally → List ℕ → Step State (List ℕ)
step_at stage.Heading last t h = record { text = heading; used = 0; state = state stage.Lines t; next = next.Again }
step_at stage.Lines last t h = lines_of last t h
step_at stage.Ending last t h = record { text = ending t.records t.place; used = 0; state = state stage.Ending t; next = next.Stop }

unfoldable pub step_of : Stepping State (List ℕ)
step_of last s h = step_at s.stage last s.tally h

-- a turn of lines
abbrev pub lines_turn : List ℕ → Hold → Tally → Turned State (List ℕ)
lines_turn window h t = by_step window h (rest window h.from h.held) (lines_of h.ended t (rest window h.from h.held))

-- ── what the code answers, and what it leaves ──

abbrev pub turned : ℕ → Next → Stand → Turn
turned written n s = record { written = written; next = n; stand = s }

pub record Turns (t : Turned State (List ℕ)) (out : List ℕ) (r : Turn) (window' out' : List ℕ) : Type 0 where
  pub answers : r ≡ turned (length t.text) t.next (stood t.hold t.state)
  pub leaves : out' ≡ fronted t.text out
  pub keeps : window' ≡ t.window
