-- What comes of an input in pieces, by a program that takes turns until one says stop, and reads where a turn says so. A read gives at most
-- what there is room for, and no bytes once all pieces are read.
-- Assumes nothing.
use Rattle.std.specs.Prelude.{ℕ, zero, suc, ◌-◌, List, [], ◌∷◌, ◌++◌, length, take, drop}
use Rattle.std.proofs.Math.Option.{Option, some, none}
use Rattle.turns.specs.declared.Hold.{Hold}
use Rattle.turns.specs.declared.Next.{Next}
use Rattle.turns.specs.declared.Next.TheVariants as next
use Rattle.turns.specs.Held.{joined, filled}
use Rattle.turns.specs.Turn.{Stepping, Turned, turn_of}

-- all pieces end to end
abbrev pub whole : List (List ℕ) → List ℕ
whole [] = []
whole (p ∷ ps) = p ++ whole ps

-- ── a read ──

-- what it gives, and what has yet to come
pub record Came : Type 0 where
  pub bytes : List ℕ
  pub later : List (List ℕ)

-- into so much room: the front of the first piece that has bytes
abbrev pub read_of : ℕ → List (List ℕ) → Came
read_of room [] = record { bytes = []; later = [] }
read_of room ([] ∷ ps) = read_of room ps
read_of room ((b ∷ bs) ∷ ps) = record { bytes = take room (b ∷ bs); later = drop room (b ∷ bs) ∷ ps }

-- ── turns ──

abbrev pub onto : {O : Type 0} → (O → O → O) → O → Option O → Option O
onto join text (some more) = some (join text more)
onto join text none = none

abbrev pub Going : Type 0 → Type 0 → Type 0
Going S O = List ℕ → Hold → S → List (List ℕ) → Option O

-- what came joins what is held
abbrev pub go_on : {S O : Type 0} → Turned S O → Came → Going S O → Option O
go_on t r go = go (filled t.window t.hold.held r.bytes) (joined t.hold (length r.bytes)) t.state r.later

-- what a turn says is done, in a window of so many bytes
abbrev pub obeyed : {S O : Type 0} → (O → O → O) → ℕ → Next → Turned S O → List (List ℕ) → Going S O → Option O
obeyed join size next.Again t ps go = onto join t.text (go t.window t.hold t.state ps)
obeyed join size next.Read t ps go = onto join t.text (go_on t (read_of (size - t.hold.held) ps) go)
obeyed join size next.Stop t ps go = some t.text

-- what at most n turns give, one after the other; none: after so many no turn has said stop
unfoldable pub run : {S O : Type 0} → (O → O → O) → ℕ → Stepping S O → ℕ → Going S O
run join size step zero window h s ps = none
run join size step (suc n) window h s ps = obeyed join size (turn_of step window h s).next (turn_of step window h s) ps λ w k t qs. run join size step n w k t qs
