-- First child and next sibling of each live place: the links of a table, the table that keeps them, and what is promised of it.
-- 0 is none, since the root is nobody's child.
-- Assumes nothing.
use Rattle.std.specs.Prelude.{◌≡◌, Bool, true, false, ◌&&◌, List, [], ◌∷◌, ℕ, zero, suc, ◌-◌, ◌≤◌, ◌<◌, leb, eqb, length, get_or}
use Rattle.layout.specs.Answer.{Told, Answer, got, refused, bare, pick}
use Rattle.layout.specs.Refusals.{TABLE}
use Rattle.tree.specs.Table.{Table, rows, flags, live, parent, table_at}
use Rattle.tree.specs.Kids.{kids_in}

-- ── in the paper's words ──

-- x is a live place from m on whose parent is p
pub record Child (ps : List ℕ) (has : ℕ → Bool) (p m x : ℕ) : Type 0 where
  pub least : m ≤ x
  pub living : has x ≡ true
  pub up : parent ps x ≡ p

-- the lowest of these, or 0 where there is none
pub data Lowest (ps : List ℕ) (has : ℕ → Bool) (p m : ℕ) : ℕ → Type 0 where
  lowest : {k : ℕ} → Child ps has p m k → ((x : ℕ) → Child ps has p m x → k ≤ x) → Lowest ps has p m k
  nobody : ((x : ℕ) → Child ps has p m x → ⊥) → Lowest ps has p m 0

-- two lists of 1,024 places: of a live place its lowest live child; of a live place other than the root the next higher live place with the same parent;
-- the root's next, and both of a place that is not live, are 0
pub record Links (ps : List ℕ) (has : ℕ → Bool) (fs ns : List ℕ) : Type 0 where
  pub firsts : length fs ≡ 1024
  pub nexts : length ns ≡ 1024
  pub first : (p : ℕ) → has p ≡ true → Lowest ps has p 1 (get_or fs p 0)
  pub next : (k : ℕ) → 0 < k → has k ≡ true → Lowest ps has (parent ps k) (suc k) (get_or ns k 0)
  pub root : get_or ns 0 0 ≡ 0
  pub ended : (k : ℕ) → has k ≡ false → (get_or fs k 0 ≡ 0) × (get_or ns k 0 ≡ 0)

-- k and its later siblings along the links, at most f of them
unfoldable pub chain_in : ℕ → List ℕ → ℕ → List ℕ
chain_in zero ns k = []
chain_in (suc f) ns k = pick (eqb k 0) [] (k ∷ chain_in f ns (get_or ns k 0))

-- there are no more than places
abbrev pub chain : List ℕ → ℕ → List ℕ
chain ns k = chain_in (length ns) ns k

-- ── as they are reckoned ──

-- the first of a list, 0 where there is none
abbrev pub first_of : List ℕ → ℕ
first_of [] = 0
first_of (x ∷ l) = x

-- the live places with the parent p, from k on
unfoldable pub from : List ℕ → (ℕ → Bool) → ℕ → ℕ → List ℕ
from ps has k p = kids_in (length ps - k) ps has k p

-- where the places from k on are linked: the first child of p among them, and the next sibling of j
abbrev pub first_at : List ℕ → (ℕ → Bool) → ℕ → ℕ → ℕ
first_at ps has k p = first_of (from ps has k p)

abbrev pub next_at : List ℕ → (ℕ → Bool) → ℕ → ℕ → ℕ
next_at ps has k j = pick (leb k j && has j) (first_of (from ps has (suc j) (parent ps j))) 0

pub record Linking (ps : List ℕ) (has : ℕ → Bool) (k : ℕ) (fs ns : List ℕ) : Type 0 where
  pub firsts : length fs ≡ 1024
  pub nexts : length ns ≡ 1024
  pub first : (p : ℕ) → get_or fs p 0 ≡ first_at ps has k p
  pub next : (j : ℕ) → get_or ns j 0 ≡ next_at ps has k j

-- each entry of a list, the first of which is that of place k, is what f says
unfoldable pub agrees : ℕ → (ℕ → ℕ) → List ℕ → Bool
agrees k f [] = true
agrees k f (x ∷ l) = eqb x (f k) && agrees (suc k) f l

-- two lists of 1,024 places
abbrev pub pair_ok : List ℕ → List ℕ → Bool
pair_ok fs ns = eqb (length fs) 1024 && eqb (length ns) 1024

-- they are the links of the table
unfoldable pub links_ok : Table → List ℕ → List ℕ → Bool
links_ok t fs ns =
    pair_ok fs ns && agrees 0 (first_at (rows t) (live (flags t)) 1) fs && agrees 0 (next_at (rows t) (live (flags t)) 1) ns

-- ── what is promised ──

-- the conversion: the table's refusals; 11 also where a list has not 1,024 places
unfoldable pub link_at : Table → List ℕ → List ℕ → Answer (Unit {0})
link_at t fs ns = pick (pair_ok fs ns) (table_at t) (refused (bare TABLE))

-- the links after: those of the table u that is left; after a refusal as they were
pub data Relinked (u : Table) (fs ns : List ℕ) : Answer (Unit {0}) → List ℕ → List ℕ → Type 0 where
  relinked : {n : ℕ} {fs' ns' : List ℕ} → Links (rows u) (live (flags u)) fs' ns' → Relinked u fs ns (got tt n) fs' ns'
  as_before : {why : Told} → Relinked u fs ns (refused why) fs ns

-- what `link` leaves
pub record Linked (t : Table) (fs ns : List ℕ) (answer : Answer (Unit {0})) (fs' ns' : List ℕ) : Type 0 where
  pub answers : answer ≡ link_at t fs ns
  pub left : Relinked t fs ns answer fs' ns'

-- a kept table's refusals: 11 also for other links than the table's, before what its names are refused with
unfoldable pub kept_at : Table → List ℕ → List ℕ → Answer (Unit {0})
kept_at t fs ns = pick (links_ok t fs ns) (table_at t) (refused (bare TABLE))

-- what is promised of a table is promised of one that keeps its links, where these are right; where they are not, the answer is 11, and nothing is changed
pub record Keeping (t : Table) (fs ns : List ℕ) (answer : Answer (Unit {0})) (Promise Unchanged : Type 0) : Type 0 where
  pub own : links_ok t fs ns ≡ true → Promise
  pub other : links_ok t fs ns ≡ false → (answer ≡ refused (bare TABLE)) × Unchanged
