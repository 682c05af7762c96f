-- A window listed: the text in one output, and in the other the bytes used of the window, the place and the number of records after it, and
-- whether a refusal ended the listing.
-- Assumes nothing.
use Rattle.std.specs.Prelude.{◌≡◌, ℕ, List, ◌∷◌, ◌++◌, length, drop, nat_le}
use Rattle.layout.specs.Answer.{Answer, got, refused, bare, pick}
use Rattle.layout.specs.Refusals.{ROOM}
use Rattle.listing.specs.Window.{Windowed}
use Rattle.abi.specs.Copied.{unless_refused}
use Rattle.abi.specs.Rows.{side}

-- 9 where the four numbers have no room; a text that has none is no refusal
abbrev pub listed_into : Windowed → List ℕ → Answer (Unit {0})
listed_into w row = pick (nat_le 4 (length row)) (got tt (length w.text)) (refused (bare ROOM))

pub record ListsInto (w : Windowed) (out row out' row' : List ℕ) (answer : Answer (Unit {0})) : Type 0 where
  pub answers : answer ≡ listed_into w row
  pub leaves : out' ≡ unless_refused answer (λ _. w.text ++ drop (length w.text) out) out
  pub counts : row' ≡ unless_refused answer (λ _. w.used ∷ w.place ∷ w.records ∷ side w.stopped ∷ drop 4 row) row
