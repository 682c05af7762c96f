-- `wire::text::clashes`: with none found, what is left and then others pairs after the unit at hand exactly when all do after the first; with one found, they do not.
-- Assumes nothing.
use mathlib.Core.Path.{◌≡◌}
use mathlib.Core.Bool.{false}
use mathlib.Core.List.{List, ◌++◌}
use Prim.Native.Nat.{ℕ, ◌≤◌, ◌+◌, ◌-◌, ◌*◌}
use lib.Dec.{eqb}
use lib.ListN.{take, drop}
use Rattle.layout.specs.Answer.{pick}
use Rattle.layout.specs.Bytes.{number, cells}
use Rattle.wire.specs.Layout.{pairs}
use Rattle.wire.proofs.text.clashes.Given as goal

abbrev pub invariant-loop-i : goal.invariant-loop-i
invariant-loop-i l =
    ((us : List ℕ) → pick (eqb l.found 0) (pairs (number (take 2 (drop (l.at + l.i * 2) l.s))) (cells 2 (l.n - l.i) (drop (l.at + l.i * 2 + 2) l.s) ++ us)) false ≡ pairs (number (take 2 (drop l.at l.s))) (cells 2 l.n (drop (l.at + 2) l.s) ++ us))
    × (l.found ≤ l.i)
