-- What adding an object leaves: it stands behind the others, of which those that ended are collected first where places or name bytes do not suffice.
-- Assumes nothing.
use Rattle.std.specs.Prelude.{Ok, Err}
use Rattle.std.specs.declared.result.Result.{Result}
use Rattle.layout.specs.declared.Refusal.{Refusal}
use Rattle.std.specs.Prelude.{◌≡◌, Bool, ◌||◌, List, [], ◌∷◌, ℕ, zero, suc, ◌+◌, ◌-◌, ltb, eqb, length, get_or, set}
use Rattle.layout.specs.Answer.{Answer, got, refused, bare, pick, after}
use Rattle.layout.specs.Written.{put}
use Rattle.layout.specs.Refusals.{ROOM, PLACE}
use Rattle.tree.specs.Table.{Table, table, flags, live, start_of, name_at}
use Rattle.shots.specs.Refusals.{TAKEN}
use Rattle.shots.specs.Collected.{alive, places, live_names, collected, ahead, lent_at, leaves, Leaves}

-- m numbers from k on
unfoldable pub up_from : ℕ → ℕ → List ℕ
up_from k zero = []
up_from k (suc m) = k ∷ up_from (suc k) m

-- where the last object's name ends
abbrev pub last_end : Table → ℕ
last_end t = start_of t.ends t.count

-- places, or name bytes at the end, do not suffice for a name of this size
unfoldable pub tight : Table → ℕ → Bool
tight t size = eqb t.count 1024 || ltb (length t.names - last_end t) size

-- the table that the object is put into, and the new places
abbrev pub base : Table → ℕ → Table
base t size = pick (tight t size) (collected t) t

abbrev pub new_places : Table → ℕ → List ℕ
new_places t size = pick (tight t size) (places t) (up_from 0 t.count)

-- an object behind the last
abbrev pub with : Table → ℕ → ℕ → List ℕ → Table
with t parent handle name =
    table
    (set t.handles t.count handle)
    (set t.parents t.count parent)
    (set t.ends t.count (last_end t + length name))
    (set t.marks t.count 1)
    (suc t.count)
    (put t.names (last_end t) name)

-- the table after adding; the parent's place is carried to its new one
abbrev pub added_to : Table → ℕ → ℕ → List ℕ → Table
added_to t parent handle name = with (base t (length name)) (get_or (new_places t (length name)) parent 0) handle name

-- the object's place, or 19, then 9 where the names that are not live would not free enough
unfoldable pub room_at : Table → ℕ → Answer (Unit {0})
room_at t size =
    pick (eqb (alive (flags t)) 1024) (refused (bare TAKEN))
    (pick (ltb (length t.names - length (live_names t)) size) (refused (bare ROOM)) (got tt (base t size).count))

-- the table's refusals, 12 for a parent that is not live, the name's, then 19 and 9
unfoldable pub add_at : Table → List ℕ → ℕ → List ℕ → Answer (Unit {0})
add_at t old parent name =
    after (lent_at t old) λ _ _.
    pick (live (flags t) parent) (after (name_at name) λ _ _. room_at t (length name)) (refused (bare PLACE))

pub record Adds (asked : Answer (Unit {0})) (t : Table) (old : List ℕ) (parent handle : ℕ) (name : List ℕ) (answer : Answer (Unit {0})) (hs ps es ms ns new : List ℕ) : Type 0 where
  pub answers : answer ≡ asked
  pub lists : Leaves answer t (added_to t parent handle name) hs ps es ms ns
  pub news : new ≡ leaves answer (ahead (new_places t (length name)) old) old
