-- A turn of a program that holds a window: a step treats what is held, and says what is to be done then. The step is any function of whether
-- the input has ended, of a state, and of the bytes that are held; what a turn gives, a text or more than one, is of any type.
-- Assumes nothing.
use Rattle.std.specs.Prelude.{ℕ, ◌+◌, Bool, false, List, length, drop}
use Rattle.turns.specs.declared.Hold.{Hold}
use Rattle.turns.specs.declared.Next.{Next}
use Rattle.turns.specs.declared.Next.TheVariants as next
use Rattle.turns.specs.Held.{holds, rest, fronted}

-- what a step gives, the bytes it has used of those that are held, the state then, and what is to be done
pub record Step (S O : Type 0) : Type 0 where
  pub text : O
  pub used : ℕ
  pub state : S
  pub next : Next

abbrev pub Stepping : Type 0 → Type 0 → Type 0
Stepping S O = Bool → S → List ℕ → Step S O

-- and what is held then, in which window
pub record Turned (S O : Type 0) : Type 0 where
  pub text : O
  pub next : Next
  pub hold : Hold
  pub state : S
  pub window : List ℕ

-- more may be treated; more has to come first, after what is left, at the window's front; all is done
abbrev pub after_step : {S O : Type 0} → Next → List ℕ → Hold → List ℕ → Step S O → Turned S O
after_step next.Again window h bs d = record { text = d.text; next = next.Again; hold = holds (h.from + d.used) h.held h.ended; state = d.state; window = window }
after_step next.Read window h bs d = record { text = d.text; next = next.Read; hold = holds 0 (length (drop d.used bs)) false; state = d.state; window = fronted (drop d.used bs) window }
after_step next.Stop window h bs d = record { text = d.text; next = next.Stop; hold = h; state = d.state; window = window }

abbrev pub by_step : {S O : Type 0} → List ℕ → Hold → List ℕ → Step S O → Turned S O
by_step window h bs d = after_step d.next window h bs d

unfoldable pub turn_of : {S O : Type 0} → Stepping S O → List ℕ → Hold → S → Turned S O
turn_of step window h s = by_step window h (rest window h.from h.held) (step h.ended s (rest window h.from h.held))
