-- The laws of a step: it treats bytes as they are treated in the whole, whatever follows them, and it comes to an end.
-- Assumes nothing.
use Rattle.std.specs.Prelude.{◌≡◌, ℕ, ◌-◌, ◌<◌, ◌≤◌, Bool, true, false, List, [], ◌++◌, length, drop}
use Rattle.turns.specs.declared.Next.{Next}
use Rattle.turns.specs.declared.Next.TheVariants as next
use Rattle.turns.specs.Turn.{Step, Stepping}

-- what the whole gives of bytes from a state on, which states there are before which bytes, and how many turns at most, without reads, a
-- state and so many bytes take
pub record Meaning (S O : Type 0) : Type 1 where
  pub join : O → O → O
  pub all : S → List ℕ → O
  pub Sound : S → List ℕ → Type 0
  pub turns : S → ℕ → ℕ

-- what a step gives of the front of bytes s, and then the whole of the rest, is the whole
pub record Onward {S O : Type 0} (m : Meaning S O) (st : S) (s : List ℕ) (d : Step S O) : Type 0 where
  pub gives : m.all st s ≡ m.join d.text (m.all d.state (drop d.used s))
  pub sound : m.Sound d.state (drop d.used s)

-- so with each next; the measure falls; and where more is asked for, the input goes on, and the window has room
abbrev pub FairBy : {S O : Type 0} → Meaning S O → ℕ → Bool → S → List ℕ → List ℕ → Step S O → Next → Type 0
FairBy m size last st h more d next.Again = Onward m st (h ++ more) d × (m.turns d.state (length (h ++ more) - d.used) < m.turns st (length (h ++ more)))
FairBy m size last st h more d next.Read = Onward m st (h ++ more) d × (m.turns d.state (length (h ++ more) - d.used) ≤ m.turns st (length (h ++ more))) × (last ≡ false) × (length h - d.used < size)
FairBy m size last st h more d next.Stop = m.all st (h ++ more) ≡ d.text

-- of bytes h with any bytes that follow, of which the last have none
pub record Fair {S O : Type 0} (m : Meaning S O) (size : ℕ) (step : Stepping S O) : Type 0 where
  pub within : (last : Bool) (st : S) (h : List ℕ) → (step last st h).used ≤ length h
  pub fair : (last : Bool) (st : S) (h more : List ℕ) → (last ≡ true → more ≡ []) → length h ≤ size → m.Sound st (h ++ more) → FairBy m size last st h more (step last st h) (step last st h).next
