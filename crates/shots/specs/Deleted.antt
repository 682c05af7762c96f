-- What deleting a place leaves: it ends, and everything below it.
-- Assumes nothing.
use Rattle.std.specs.Prelude.{Bool, ◌&&◌, List, [], ◌∷◌, ◌++◌, ℕ, suc, ltb, length, drop}
use Rattle.layout.specs.Answer.{bare, pick}
use Rattle.layout.specs.Written.{Said, says, no}
use Rattle.layout.specs.Refusals.{PLACE}
use Rattle.tree.specs.Listed.{times}
use Rattle.tree.specs.Table.{Table, table, rows, flags, live, table_at}
use Rattle.tree.specs.Way.{way}
use Rattle.tree.specs.Path.{said_if}

-- whether the way from the root to k holds the place
abbrev pub under : List ℕ → ℕ → ℕ → Bool
under ps place k = ltb 0 (times place (way ps k))

-- marks, the first of which is that of place k: 0 where the way holds the place, else as they were
unfoldable pub ended_from : ℕ → List ℕ → ℕ → List ℕ → List ℕ
ended_from k ps place [] = []
ended_from k ps place (m ∷ ms) = pick (under ps place k) 0 m ∷ ended_from (suc k) ps place ms

-- the marks after
abbrev pub ended : Table → ℕ → List ℕ
ended t place = ended_from 0 (rows t) place (flags t)

-- the table after: the marks up to the count
abbrev pub deleted : Table → ℕ → Table
deleted t place = table t.handles t.parents t.ends (ended t place ++ drop (length (ended t place)) t.marks) t.count t.names

-- of a list of places those whose way does not hold the place
unfoldable pub spared : List ℕ → ℕ → List ℕ → List ℕ
spared ps place [] = []
spared ps place (k ∷ l) = pick (under ps place k) (spared ps place l) (k ∷ spared ps place l)

-- the table's refusals, then 12 for the root and for a place that is not live; else the marks up to the count
unfoldable pub delete_said : Table → ℕ → Said
delete_said t place =
    said_if (table_at t) (pick (ltb 0 place && live (flags t) place) (says (ended t place)) (no (bare PLACE)))
