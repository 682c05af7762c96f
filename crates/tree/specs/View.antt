-- The folder view: each place, then all below it, before the next one at its level; and what is given of a table so: its places, and all paths.
-- Assumes nothing.
use Rattle.std.specs.Prelude.{◌≡◌, Bool, List, ℕ, length}
use Rattle.layout.specs.Answer.{Answer, got}
use Rattle.layout.specs.Written.{says, Wrote, left_of}
use Rattle.tree.specs.Table.{Table, rows, flags, live, table_at}
use Rattle.tree.specs.Listed.{Listed}
use Rattle.tree.specs.Way.{way, Left}
use Rattle.tree.specs.Path.{said_if, paths_said, ends_said}

-- the folder view of those places that `has` says: each stands once, in the order of the places from the root down to it, compared left to right
abbrev pub Folders : List ℕ → (ℕ → Bool) → List ℕ → Type 0
Folders ps has l = Listed has (λ a b. Left (way ps a) (way ps b)) l

-- it, given as places
pub record Viewed (t : Table) (old : List ℕ) (answer : Answer (Unit {0})) (new : List ℕ) : Type 0 where
  pub order : List ℕ
  pub viewed : (n : ℕ) → table_at t ≡ got tt n → Folders (rows t) (live (flags t)) order
  pub wrote : Wrote (said_if (table_at t) (says order)) old answer new

-- all paths in its order, end to end in `out`, and the end of each in `ends`: both are written, or neither is changed
pub record ViewPaths (t : Table) (out ends : List ℕ) (answer : Answer (Unit {0})) (out' ends' : List ℕ) : Type 0 where
  pub order : List ℕ
  pub viewed : (n : ℕ) → table_at t ≡ got tt n → Folders (rows t) (live (flags t)) order
  pub wrote : Wrote (paths_said t order (length ends)) out answer out'
  pub left : ends' ≡ left_of (ends_said t order (length out)) ends
