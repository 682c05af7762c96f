-- What collecting leaves: the live objects moved down in their order, and for each old place its new one or none.
-- Assumes nothing.
use Rattle.std.specs.Prelude.{◌≡◌, List, [], ◌∷◌, ◌++◌, ℕ, ◌+◌, ◌-◌, ltb, eqb, length, get_or, take, drop, replicate}
use Rattle.layout.specs.Answer.{Answer, got, refused, bare, pick, after}
use Rattle.layout.specs.Refusals.{TABLE}
use Rattle.tree.specs.Table.{Table, table, flags, table_at}

-- no new place
abbrev pub GONE : ℕ
GONE = 65535

-- how many marks are live
unfoldable pub alive : List ℕ → ℕ
alive [] = 0
alive (m ∷ ms) = pick (ltb 0 m) 1 0 + alive ms

-- the new place of each, where n live ones stand before them
unfoldable pub places_from : ℕ → List ℕ → List ℕ
places_from n [] = []
places_from n (m ∷ ms) = pick (ltb 0 m) n GONE ∷ places_from (n + pick (ltb 0 m) 1 0) ms

-- of a list's entries those with a live mark, each put through f
unfoldable pub kept_by : (ℕ → ℕ) → List ℕ → List ℕ → List ℕ
kept_by f [] xs = []
kept_by f (m ∷ ms) [] = []
kept_by f (m ∷ ms) (x ∷ xs) = pick (ltb 0 m) (f x ∷ kept_by f ms xs) (kept_by f ms xs)

-- the ends of the live names put end to end from `at` on, where the first of es is the end of the name that starts at `from`
unfoldable pub ends_kept : ℕ → ℕ → List ℕ → List ℕ → List ℕ
ends_kept from at [] es = []
ends_kept from at (m ∷ ms) [] = []
ends_kept from at (m ∷ ms) (e ∷ es) = pick (ltb 0 m) ((at + (e - from)) ∷ ends_kept e (at + (e - from)) ms es) (ends_kept e at ms es)

-- the bytes of the live names
unfoldable pub names_kept : ℕ → List ℕ → List ℕ → List ℕ → List ℕ
names_kept from [] es ns = []
names_kept from (m ∷ ms) [] ns = []
names_kept from (m ∷ ms) (e ∷ es) ns = pick (ltb 0 m) (take (e - from) (drop from ns) ++ names_kept e ms es ns) (names_kept e ms es ns)

-- these stand at the front, and behind them is what stood there
unfoldable pub ahead : List ℕ → List ℕ → List ℕ
ahead front old = front ++ drop (length front) old

-- the new places
abbrev pub places : Table → List ℕ
places t = places_from 0 (flags t)

-- that of one
abbrev pub new_place : Table → ℕ → ℕ
new_place t k = get_or (places t) k 0

-- the live names' bytes
abbrev pub live_names : Table → List ℕ
live_names t = names_kept 0 (flags t) t.ends t.names

-- the table after collecting; each parent entry is carried to the parent's new place
abbrev pub collected : Table → Table
collected t =
    table
    (ahead (kept_by (λ h. h) (flags t) t.handles) t.handles)
    (ahead (kept_by (new_place t) (flags t) t.parents) t.parents)
    (ahead (ends_kept 0 0 (flags t) t.ends) t.ends)
    (ahead (replicate (alive (flags t)) 1) t.marks)
    (alive (flags t))
    (ahead (live_names t) t.names)

-- the table's refusals; 11 also where the list of new places has not 1,024 places
unfoldable pub lent_at : Table → List ℕ → Answer (Unit {0})
lent_at t old = pick (eqb (length old) 1024) (table_at t) (refused (bare TABLE))

-- of an answer, what is left: new, or as it was where it is refused
abbrev pub leaves : Answer (Unit {0}) → List ℕ → List ℕ → List ℕ
leaves (got _ n) new old = new
leaves (refused why) new old = old

-- the lists of a table t with such an answer, if u is what it is to become
pub record Leaves (answer : Answer (Unit {0})) (t u : Table) (hs ps es ms ns : List ℕ) : Type 0 where
  pub handles : hs ≡ leaves answer u.handles t.handles
  pub parents : ps ≡ leaves answer u.parents t.parents
  pub ends : es ≡ leaves answer u.ends t.ends
  pub marks : ms ≡ leaves answer u.marks t.marks
  pub names : ns ≡ leaves answer u.names t.names

-- lists that are a table's
pub record Lists (t : Table) (hs ps es ms ns : List ℕ) : Type 0 where
  pub handles : hs ≡ t.handles
  pub parents : ps ≡ t.parents
  pub ends : es ≡ t.ends
  pub marks : ms ≡ t.marks
  pub names : ns ≡ t.names

-- the new count, or the refusal
unfoldable pub collect_at : Table → List ℕ → Answer (Unit {0})
collect_at t old = after (lent_at t old) λ _ _. got tt (alive (flags t))

pub record Collected (t : Table) (old : List ℕ) (answer : Answer (Unit {0})) (hs ps es ms ns new : List ℕ) : Type 0 where
  pub answers : answer ≡ collect_at t old
  pub lists : Leaves answer t (collected t) hs ps es ms ns
  pub news : new ≡ leaves answer (ahead (places t) old) old
