-- The path of a place in UTF-8; what is given of a table: its walk, and all paths in walk order.
-- Assumes nothing.
use Rattle.std.specs.Prelude.{◌≡◌, List, [], ◌∷◌, ◌++◌, ℕ, ◌+◌, leb, length}
use Rattle.layout.specs.Answer.{Answer, got, refused, bare, pick}
use Rattle.layout.specs.Written.{Said, says, no, Wrote, spelling, left_of}
use Rattle.layout.specs.Refusals.{ROOM, PLACE}
use Rattle.wire.specs.Utf8.{utf8_at}
use Rattle.tree.specs.Table.{Table, rows, stops, flags, live, name_bytes, table_at}
use Rattle.tree.specs.Way.{from_root, Walk}

-- the name of a place
unfoldable pub name_of : List ℕ → List ℕ → ℕ → List ℕ
name_of es ns k = spelling (utf8_at (name_bytes es ns k) 0)

-- a slash, only if the path before it is not empty
abbrev pub slash_after : List ℕ → List ℕ
slash_after [] = []
slash_after (b ∷ path) = 0x2F ∷ []

-- the root's path is its name; elsewhere it is the parent's path, the slash, then the name
unfoldable pub path_of : List ℕ → List ℕ → List ℕ → ℕ → List ℕ
path_of ps es ns k = from_root (name_of es ns 0) (λ above j. above ++ slash_after above ++ name_of es ns j) ps k

-- the paths of these places end to end, and the end of each, from a place on
unfoldable pub joined : List ℕ → List ℕ → List ℕ → List ℕ → List ℕ
joined ps es ns [] = []
joined ps es ns (k ∷ l) = path_of ps es ns k ++ joined ps es ns l

unfoldable pub ends_from : ℕ → List ℕ → List ℕ → List ℕ → List ℕ → List ℕ
ends_from at ps es ns [] = []
ends_from at ps es ns (k ∷ l) = (at + length (path_of ps es ns k)) ∷ ends_from (at + length (path_of ps es ns k)) ps es ns l

-- ── what is said ──

-- of a table that is accepted; of any other, its refusal
abbrev pub said_if : Answer (Unit {0}) → Said → Said
said_if (got _ n) s = s
said_if (refused why) s = no why

-- the table's refusals, then 12 for a place that is not live
unfoldable pub path_said : Table → ℕ → Said
path_said t k = said_if (table_at t) (pick (live (flags t) k) (says (path_of (rows t) (stops t) t.names k)) (no (bare PLACE)))

-- of the paths, with room for so many ends; and of the ends, with room for so many bytes
unfoldable pub paths_said : Table → List ℕ → ℕ → Said
paths_said t l room = said_if (table_at t) (pick (leb (length l) room) (says (joined (rows t) (stops t) t.names l)) (no (bare ROOM)))

unfoldable pub ends_said : Table → List ℕ → ℕ → Said
ends_said t l room =
    said_if (table_at t)
    (pick (leb (length (joined (rows t) (stops t) t.names l)) room) (says (ends_from 0 (rows t) (stops t) t.names l)) (no (bare ROOM)))

-- the walk, given as places
pub record Walked (t : Table) (old : List ℕ) (answer : Answer (Unit {0})) (new : List ℕ) : Type 0 where
  pub order : List ℕ
  pub walked : (n : ℕ) → table_at t ≡ got tt n → Walk (rows t) (live (flags t)) order
  pub wrote : Wrote (said_if (table_at t) (says order)) old answer new

-- all paths in walk order, end to end in `out`, and the end of each in `ends`: both are written, or neither is changed
pub record AllPaths (t : Table) (out ends : List ℕ) (answer : Answer (Unit {0})) (out' ends' : List ℕ) : Type 0 where
  pub order : List ℕ
  pub walked : (n : ℕ) → table_at t ≡ got tt n → Walk (rows t) (live (flags t)) order
  pub wrote : Wrote (paths_said t order (length ends)) out answer out'
  pub left : ends' ≡ left_of (ends_said t order (length out)) ends
