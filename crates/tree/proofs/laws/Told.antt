-- Which refusals of a table have a place: a name's 1 and 2 and no other, and the place lies in that name.
-- The names are read one by one, each from its own first byte.
-- Assumes nothing.
use Rattle.layout.specs.Answer.{says_count}
use Rattle.std.specs.declared.result.Result.{Result}
use Rattle.layout.specs.declared.Refusal.{Refusal}
use mathlib.Core.Path.{◌≡◌}
use mathlib.Core.List.{List}
use Prim.Native.Nat.{ℕ, zero, suc}
use native.Mathlib.Omega.{arith}
use lib.Dec.{eqb}
use lib.ListN.{length}
use Rattle.layout.specs.Answer.{Answer}
use Rattle.layout.specs.Refusals.{TRAIL, TABLE}
use Rattle.layout.specs.Told.{PlacedExactly, Inside}
use Rattle.layout.proofs.laws.Told.{Telling, read, plainly, telling_same, Closed, Everywhere, everywhere, telling_pick, telling_after, telling_exactly, told_from_0}
use Rattle.wire.proofs.laws.Told.{text_telling}
use Rattle.tree.specs.Table.{Table, stops, table_ok, name_bytes, name_at, names_from, table_at}
use Rattle.tree.specs.Links.{pair_ok, links_ok, link_at, Linked, kept_at}

pub name_telling : {P : ℕ → Type 0} (s : List ℕ) → Closed P s → P 0 → Telling P (name_at s)
unfolding name_at
name_telling s closed h =
    telling_after (text_telling s closed 0 h) λ _ next i. telling_pick (eqb next (length s)) (λ _. read i) λ _. plainly TRAIL (omega arith)

names_telling : (k m : ℕ) (es ns : List ℕ) → Telling Everywhere (names_from k m es ns)
unfolding names_from
names_telling k zero es ns = read tt
names_telling k (suc m) es ns =
    telling_after (name_telling (name_bytes es ns k) (everywhere (name_bytes es ns k)) tt) λ _ _ _. names_telling (suc k) m es ns

-- of one name
pub name_told : (s : List ℕ) (x : Answer (Unit {0})) → x ≡ name_at s → PlacedExactly x × Inside (length s) x
name_told s x promised = told_from_0 s promised λ P c h. name_telling s c h

pub table_telling : (t : Table) → Telling Everywhere (table_at t)
unfolding table_at
table_telling t = telling_pick (table_ok t) (λ _. names_telling 0 (length (stops t)) (stops t) t.names) λ _. plainly TABLE (omega arith)

-- of a table, and so of every question that asks for one: its walk, a path, all paths
pub table_told : (t : Table) (r : (Result ℕ Refusal)) → says_count r ≡ table_at t → PlacedExactly (says_count r)
table_told t r promised = telling_exactly (telling_same promised (table_telling t))

-- of a table that keeps its links, and of links that are made
pub kept_told : (t : Table) (fs ns : List ℕ) (r : (Result ℕ Refusal)) → says_count r ≡ kept_at t fs ns → PlacedExactly (says_count r)
unfolding kept_at
kept_told t fs ns r promised =
    telling_exactly (telling_same promised (telling_pick (links_ok t fs ns) (λ _. table_telling t) λ _. plainly TABLE (omega arith)))

pub link_told : (t : Table) {fs ns f m : List ℕ} (r : (Result ℕ Refusal)) → Linked t fs ns (says_count r) f m → PlacedExactly (says_count r)
unfolding link_at
link_told t {fs} {ns} r promised =
    telling_exactly (telling_same promised.answers (telling_pick (pair_ok fs ns) (λ _. table_telling t) λ _. plainly TABLE (omega arith)))
