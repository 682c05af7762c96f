-- All paths of places that were moved and kept their paths: in any order the same is said of them, bytes and ends.
-- Assumes nothing.
use mathlib.Core.Path.{◌≡◌, refl}
use mathlib.Core.List.{List, map}
use Prim.Native.Nat.{ℕ, ◌+◌}
use lib.ListN.{length, length-map}
use Rattle.layout.specs.Answer.{got}
use Rattle.tree.specs.Listed.{Every, none, more}
use Rattle.tree.specs.Table.{Table, rows, stops, table_at}
use Rattle.tree.specs.Path.{path_of, joined, ends_from, paths_said, ends_said}

module _ (t u : Table) (new : ℕ → ℕ) where
  -- the place that k became has its path
  abbrev PathMoved : ℕ → Type 0
  PathMoved k = path_of (rows u) (stops u) u.names (new k) ≡ path_of (rows t) (stops t) t.names k

  joined_moved : {l : List ℕ} → Every PathMoved l → joined (rows u) (stops u) u.names (map new l) ≡ joined (rows t) (stops t) t.names l
  unfolding joined
  joined_moved none = refl
  joined_moved (more e f) = rw (e, joined_moved f)

  ends_moved : (at : ℕ) {l : List ℕ} → Every PathMoved l → ends_from at (rows u) (stops u) u.names (map new l) ≡ ends_from at (rows t) (stops t) t.names l
  unfolding ends_from
  ends_moved at none = refl
  ends_moved at (more {x} e f) = rw (e, ends_moved (at + length (path_of (rows t) (stops t) t.names x)) f)

  module _ {n m : ℕ} (e : table_at t ≡ got tt n) (f : table_at u ≡ got tt m) {l : List ℕ} (same : Every PathMoved l) (room : ℕ) where
    pub paths_said_moved : paths_said u (map new l) room ≡ paths_said t l room
    unfolding paths_said
    paths_said_moved = rw (f, e, length-map l new, joined_moved same)

    pub ends_said_moved : ends_said u (map new l) room ≡ ends_said t l room
    unfolding ends_said
    ends_said_moved = rw (f, e, joined_moved same, ends_moved 0 same)
