-- Which refusals of a changed table have a place: a name's 1 and 2 and no other.
-- Assumes nothing.
use mathlib.Core.Bool.{Bool, true, false, ◌&&◌}
use mathlib.Core.List.{List}
use Prim.Native.Nat.{ℕ, ◌-◌}
use native.Mathlib.Omega.{arith}
use lib.Dec.{ltb, leb, eqb}
use lib.ListN.{length}
use Rattle.layout.specs.Answer.{Answer, got, refused, bare, pick}
use Rattle.layout.specs.Refusals.{ROOM, PLACE, TABLE}
use Rattle.layout.specs.Told.{PlacedExactly}
use Rattle.layout.specs.Written.{Wrote, says, no, answer_of}
use Rattle.layout.proofs.laws.Told.{Telling, read, plainly, telling_same, Everywhere, everywhere, telling_pick, telling_after, telling_exactly}
use Rattle.tree.specs.Links.{links_ok, Keeping}
use Rattle.tree.specs.Path.{said_if}
use Rattle.tree.specs.Table.{Table, flags, live, table_at}
use Rattle.tree.proofs.laws.Below.{by_mark}
use Rattle.tree.proofs.laws.Told.{table_telling, name_telling}
use Rattle.shots.specs.Refusals.{TAKEN}
use Rattle.shots.specs.Deleted.{ended, delete_said}
use Rattle.shots.specs.Collected.{alive, live_names, lent_at, collect_at, Collected}
use Rattle.shots.specs.Added.{room_at, add_at, Adds}

lent_telling : (t : Table) (old : List ℕ) → Telling Everywhere (lent_at t old)
unfolding lent_at
lent_telling t old = telling_pick (eqb (length old) 1024) (λ _. table_telling t) λ _. plainly TABLE (omega arith)

room_telling : (t : Table) (size : ℕ) → Telling Everywhere (room_at t size)
unfolding room_at
room_telling t size =
    telling_pick (eqb (alive (flags t)) 1024) (λ _. plainly TAKEN (omega arith)) λ _.
    telling_pick (ltb (length t.names - length (live_names t)) size) (λ _. plainly ROOM (omega arith)) λ _. read tt

pub deleted_told : (t : Table) (place : ℕ) {a : Answer (Unit {0})} {ms : List ℕ} → Wrote (delete_said t place) t.marks a ms → PlacedExactly a
unfolding delete_said answer_of
deleted_told t place w = telling_exactly (telling_same w.answers (of (table_at t) (table_telling t)))
  where
    may : (b : Bool) → Telling Everywhere (answer_of (pick b (says (ended t place)) (no (bare PLACE))) t.marks)
    may true = telling_pick (leb (length (ended t place)) (length t.marks)) (λ _. read tt) λ _. plainly ROOM (omega arith)
    may false = plainly PLACE (omega arith)

    of : (x : Answer (Unit {0})) → Telling Everywhere x → Telling Everywhere (answer_of (said_if x (pick (ltb 0 place && live (flags t) place) (says (ended t place)) (no (bare PLACE)))) t.marks)
    of (got u n) h = may (ltb 0 place && live (flags t) place)
    of (refused why) h = h

pub collected_told : {t : Table} {old : List ℕ} {a : Answer (Unit {0})} {hs ps es ms ns new : List ℕ} → Collected t old a hs ps es ms ns new → PlacedExactly a
unfolding collect_at
collected_told {t} {old} c = telling_exactly (telling_same c.answers (telling_after (lent_telling t old) λ _ _ _. read tt))

pub added_told : {t : Table} {old name : List ℕ} {parent handle : ℕ} {a : Answer (Unit {0})} {hs ps es ms ns new : List ℕ} → Adds (add_at t old parent name) t old parent handle name a hs ps es ms ns new → PlacedExactly a
unfolding add_at
added_told {t} {old} {name} {parent} c =
    telling_exactly (telling_same c.answers (
    telling_after (lent_telling t old) λ _ _ _.
    telling_pick (live (flags t) parent) (λ _. telling_after (name_telling name (everywhere name) tt) λ _ _ _. room_telling t (length name)) λ _. plainly PLACE (omega arith)
    ))

-- of a table that keeps its links: nor has the 11 of other links a place
pub linked_told : {t : Table} {fs ns : List ℕ} {a : Answer (Unit {0})} {P U : Type 0} → Keeping t fs ns a P U → (P → PlacedExactly a) → PlacedExactly a
linked_told {t} {fs} {ns} k f = by_mark (links_ok t fs ns) (λ e. f (k.own e)) (λ e. telling_exactly (telling_same (k.other e).0 (plainly TABLE (omega arith))))
