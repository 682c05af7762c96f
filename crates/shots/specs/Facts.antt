-- What the table's rule gives, as facts of the whole lists: the private functions ask for these. No public promise names them.
-- Assumes nothing.
use Rattle.std.specs.Prelude.{◌≡◌, Bool, true, ◌&&◌, List, ℕ, ◌+◌, ◌-◌, ◌≤◌, ◌<◌, eqb, ltb, length, get_or, take, set}
use Rattle.layout.specs.Answer.{Answer, got, refused, bare, pick, after}
use Rattle.layout.specs.Refusals.{ROOM, PLACE}
use Rattle.tree.specs.Listed.{times}
use Rattle.tree.specs.Links.{Child, Links}
use Rattle.tree.specs.Table.{Table, rows, flags, live, start_of, end_of, name_at}
use Rattle.shots.specs.Deleted.{under}
use Rattle.shots.specs.Added.{last_end, base, new_places}
use Rattle.shots.specs.Collected.{alive, kept_by, names_kept, places, collected, ahead}
use Rattle.shots.specs.Refusals.{TAKEN}

-- the first n ends rise
pub record Rises (n : ℕ) (es : List ℕ) : Type 0 where
  pub rises : (k : ℕ) → k < n → start_of es k ≤ end_of es k

-- and none is past the size
pub record Spaced (n : ℕ) (es : List ℕ) (size : ℕ) : Type 0 where
  pub risen : Rises n es
  pub inside : (k : ℕ) → k < n → end_of es k ≤ size

-- the first n parent entries are below the size
pub record Hung (n : ℕ) (ps : List ℕ) (size : ℕ) : Type 0 where
  pub hung : (k : ℕ) → k < n → get_or ps k 0 < size

pub record Fit (t : Table) : Type 0 where
  pub few : t.count ≤ 1024
  pub handled : length t.handles ≡ 1024
  pub parented : length t.parents ≡ 1024
  pub ended : length t.ends ≡ 1024
  pub flagged : length t.marks ≡ 1024
  pub hanging : Hung t.count t.parents t.count
  pub spaced : Spaced t.count t.ends (length t.names)

-- these stand at the front of the list now, as many as there are, and there was room for them
pub record Fronted (front old new : List ℕ) (n : ℕ) : Type 0 where
  pub list : new ≡ ahead front old
  pub size : n ≡ length front
  pub room : n ≤ length old

-- live objects moved down by these new places
pub record Lowered (t : Table) (news hs ps es ms ns : List ℕ) : Type 0 where
  pub handles : hs ≡ (collected t).handles
  pub parents : ps ≡ ahead (kept_by (λ p. get_or news p 0) (flags t) t.parents) t.parents
  pub ends : es ≡ (collected t).ends
  pub marks : ms ≡ (collected t).marks
  pub names : ns ≡ (collected t).names

-- a table collected, with its new places
pub record Gathered (t : Table) (old : List ℕ) (n : ℕ) (hs ps es ms ns new : List ℕ) : Type 0 where
  pub count : n ≡ alive (flags t)
  pub handles : hs ≡ (collected t).handles
  pub parents : ps ≡ (collected t).parents
  pub ends : es ≡ (collected t).ends
  pub marks : ms ≡ (collected t).marks
  pub names : ns ≡ (collected t).names
  pub news : new ≡ ahead (places t) old

-- a table that has room for one object more, with a name of this size
pub record Room (t : Table) (size : ℕ) : Type 0 where
  pub free : t.count < 1024
  pub handled : length t.handles ≡ 1024
  pub parented : length t.parents ≡ 1024
  pub ended : length t.ends ≡ 1024
  pub flagged : length t.marks ≡ 1024
  pub holds : last_end t + size ≤ length t.names
  pub short : last_end t + size < 4294967296

-- the table that the object is put into
pub record Based (t : Table) (size : ℕ) (old : List ℕ) (n : ℕ) (hs ps es ms ns new : List ℕ) : Type 0 where
  pub count : n ≡ (base t size).count
  pub handles : hs ≡ (base t size).handles
  pub parents : ps ≡ (base t size).parents
  pub ends : es ≡ (base t size).ends
  pub marks : ms ≡ (base t size).marks
  pub names : ns ≡ (base t size).names
  pub news : new ≡ ahead (new_places t size) old

-- ── links ──

-- 0 at the places of a list, the others as they were
pub record Cleared (q old new : List ℕ) : Type 0 where
  pub long : length new ≡ length old
  pub each : (k : ℕ) → get_or new k 0 ≡ pick (ltb 0 (times k q)) 0 (get_or old k 0)

-- each link that named the place names what stands behind it
pub record Skipped (place behind : ℕ) (old new : List ℕ) : Type 0 where
  pub long : length new ≡ length old
  pub each : (k : ℕ) → get_or new k 0 ≡ pick (eqb (get_or old k 0) place) behind (get_or old k 0)

-- a list's entries are below the size
pub record Inside (l : List ℕ) (size : ℕ) : Type 0 where
  pub inside : (i : ℕ) → i < length l → get_or l i 0 < size

-- at the front stands what ends: each live place whose way holds the place, once
pub record Falling (ps : List ℕ) (has : ℕ → Bool) (place : ℕ) (old : List ℕ) (n : ℕ) (new : List ℕ) : Type 0 where
  pub list : List ℕ
  pub once : (k : ℕ) → times k list ≡ pick (has k && under ps place k) 1 0
  pub inside : Inside list (length ps)
  pub fronted : Fronted list old new n

-- 0 from a place on, before it as it was
pub record Blank (n : ℕ) (old new : List ℕ) : Type 0 where
  pub long : length new ≡ length old
  pub before : (k : ℕ) → k < n → get_or new k 0 ≡ get_or old k 0
  pub none : (k : ℕ) → n ≤ k → get_or new k 0 ≡ 0

-- what is live stands where the live ones before it are counted, and names a new place; behind the live ones stands 0
pub record Carried (ms news old new : List ℕ) : Type 0 where
  pub long : length new ≡ length old
  pub each : (k : ℕ) → live ms k ≡ true → get_or new (alive (take k ms)) 0 ≡ get_or news (get_or old k 0) 0
  pub none : (k : ℕ) → alive ms ≤ k → get_or new k 0 ≡ 0

-- the links of a table
pub record LinksOf (t : Table) (fs ns : List ℕ) : Type 0 where
  pub links : Links (rows t) (live (flags t)) fs ns

-- one place more at the end of the chain of p
pub data Appended (ps : List ℕ) (has : ℕ → Bool) (p place : ℕ) (fs ns : List ℕ) : List ℕ → List ℕ → Type 0 where
  only : get_or fs p 0 ≡ 0 → Appended ps has p place fs ns (set fs p place) ns
  last : {k : ℕ} → Child ps has p 1 k → get_or ns k 0 ≡ 0 → Appended ps has p place fs ns fs (set ns k place)

-- ── what an object is refused with ──

-- 19, then 9
unfoldable pub spare_at : List ℕ → List ℕ → List ℕ → ℕ → Answer (Unit {0})
spare_at ms es bs size = pick (eqb (alive ms) 1024) (refused (bare TAKEN)) (pick (ltb (length bs - length (names_kept 0 ms es bs)) size) (refused (bare ROOM)) (got tt 0))

-- 12 for a parent that is not live, the name's, then these
unfoldable pub object_at : List ℕ → List ℕ → List ℕ → ℕ → List ℕ → Answer (Unit {0})
object_at ms es bs parent name = pick (live ms parent) (after (name_at name) λ _ _. spare_at ms es bs (length name)) (refused (bare PLACE))
