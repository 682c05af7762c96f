-- What is held of a window: the bytes from a place of it on, how they move to its front, and how what comes joins them.
-- Assumes nothing.
use Rattle.std.specs.Prelude.{◌≡◌, ℕ, ◌+◌, ◌-◌, ◌%◌, ◌^◌, Bool, false, List, ◌++◌, length, take, drop, ◌==◌}
use Rattle.turns.specs.declared.Hold.{Hold}

abbrev pub holds : ℕ → ℕ → Bool → Hold
holds from held ended = record { from = from; held = held; ended = ended }

abbrev pub none : Hold
none = holds 0 0 false

-- n bytes came after those that are held; none: the input has ended
abbrev pub joined : Hold → ℕ → Hold
joined h n = holds h.from ((h.held + n) % 2 ^ 64) (n == 0)

-- the bytes that are still to be treated
unfoldable pub rest : List ℕ → ℕ → ℕ → List ℕ
rest window from held = take (held - from) (drop from window)

-- bytes at the front, and all past them as it was
abbrev pub fronted : List ℕ → List ℕ → List ℕ
fronted bs old = bs ++ drop (length bs) old

-- what is left of a window is at its front
pub record Kept (old : List ℕ) (from held r : ℕ) (new : List ℕ) : Type 0 where
  pub count : r ≡ length (rest old from held)
  pub leaves : new ≡ fronted (rest old from held) old

-- the window with these bytes from a place on
abbrev pub filled : List ℕ → ℕ → List ℕ → List ℕ
filled window at bs = take at window ++ bs ++ drop (at + length bs) window
