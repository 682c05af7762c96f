-- What the table's rule gives, as facts: the private functions ask for these. No public promise names them.
-- Assumes nothing.
use Rattle.std.specs.Prelude.{◌≡◌, Bool, true, List, ℕ, ◌+◌, ◌≤◌, ◌<◌, leb, length, get_or, take, drop}
use Rattle.layout.specs.Answer.{Answer, bare, pick}
use Rattle.layout.specs.Refusals.{ROOM}
use Rattle.layout.specs.Written.{says, no, Wrote, left_of}
use Rattle.tree.specs.Listed.{times, Every}
use Rattle.tree.specs.Path.{path_of, joined, ends_from}
use Rattle.tree.specs.Table.{parent, start_of, end_of}

-- of the parent entries
pub record Ruled (ps : List ℕ) : Type 0 where
  pub some : 0 < length ps
  pub few : length ps ≤ 1024
  pub smaller : (k : ℕ) → 0 < k → k < length ps → parent ps k < k

-- of the live marks: the root is live, only places are, and so is the parent of what is
pub record Marks (ps : List ℕ) (has : ℕ → Bool) : Type 0 where
  pub root : has 0 ≡ true
  pub place : (k : ℕ) → has k ≡ true → k < length ps
  pub up : (k : ℕ) → 0 < k → has k ≡ true → has (parent ps k) ≡ true

-- of the ends
pub record Rising (es : List ℕ) (size : ℕ) : Type 0 where
  pub rises : (k : ℕ) → k < length es → start_of es k ≤ end_of es k
  pub within : (k : ℕ) → k < length es → end_of es k ≤ size

-- of both
pub record Kept (ps es ns : List ℕ) : Type 0 where
  pub ruling : Ruled ps
  pub ended : length es ≡ length ps
  pub spaced : Rising es (length ns)

-- places of a table that keeps its rule, at most 1,024 of them, each behind its parent
pub record Listing (ps es ns l : List ℕ) : Type 0 where
  pub kept : Kept ps es ns
  pub places : Every (λ k. k < length ps) l
  pub above : (i : ℕ) → i < length l → (get_or l i 0 ≡ 0 → ⊥) → 0 < times (parent ps (get_or l i 0)) (take i l)
  pub few : length l ≤ 1024

-- the length of a place's path is kept at the place
pub record Long (ps es ns lens : List ℕ) (k : ℕ) : Type 0 where
  pub size : get_or lens k 0 ≡ length (path_of ps es ns k)

-- the path of a place stands in the output, before o, where the starts say
pub record Stands (ps es ns starts out : List ℕ) (o k : ℕ) : Type 0 where
  pub before : get_or starts k 0 + length (path_of ps es ns k) ≤ o
  pub bytes : take (length (path_of ps es ns k)) (drop (get_or starts k 0) out) ≡ path_of ps es ns k

-- what a place needs of its parent, if it has one
pub record Above (ps : List ℕ) (P : ℕ → Type 0) (k : ℕ) : Type 0 where
  pub up : (k ≡ 0 → ⊥) → P (parent ps k)

-- the paths of these places and an end for each, given to two outputs: where one is too short neither is changed
pub record PathsGiven (ps es ns l out ends : List ℕ) (answer : Answer (Unit {0})) (out' ends' : List ℕ) : Type 0 where
  pub wrote : Wrote (pick (leb (length l) (length ends)) (says (joined ps es ns l)) (no (bare ROOM))) out answer out'
  pub left : ends' ≡ left_of (pick (leb (length (joined ps es ns l)) (length out)) (says (ends_from 0 ps es ns l)) (no (bare ROOM))) ends

-- what holds of every one of a list
pub record All (P : ℕ → Type 0) (l : List ℕ) : Type 0 where
  pub each : Every P l
