-- The table of objects: its rule, and its answer to every question where the rule is broken.
-- Assumes nothing.
use Rattle.std.specs.Prelude.{Bool, true, ◌&&◌, List, [], ◌∷◌, ℕ, zero, suc, ◌-◌, length, get_or, take, drop, leb, ltb, eqb}
use Rattle.layout.specs.Answer.{Answer, got, refused, bare, pick, after}
use Rattle.layout.specs.Refusals.{TRAIL, TABLE}
use Rattle.wire.specs.Places.{text_at}

-- handles, parent entries, the names end to end in one buffer with an end for each, and live marks; a count, up to which the rules hold
pub record Table : Type 0 where
  pub handles : List ℕ
  pub parents : List ℕ
  pub ends : List ℕ
  pub marks : List ℕ
  pub count : ℕ
  pub names : List ℕ

abbrev pub table : List ℕ → List ℕ → List ℕ → List ℕ → ℕ → List ℕ → Table
table hs ps es ms n ns = record { handles = hs; parents = ps; ends = es; marks = ms; count = n; names = ns }

-- the entries below the count
abbrev pub rows : Table → List ℕ
rows t = take t.count t.parents

abbrev pub stops : Table → List ℕ
stops t = take t.count t.ends

abbrev pub flags : Table → List ℕ
flags t = take t.count t.marks

-- ── the parent entries ──

abbrev pub parent : List ℕ → ℕ → ℕ
parent ps k = get_or ps k 0

-- place 0 is the root, with the entry 0; every other entry is smaller than its own place
abbrev pub kept : ℕ → ℕ → Bool
kept k p = pick (eqb k 0) (eqb p 0) (ltb p k)

-- every entry of ps, the first of which is that of place k
unfoldable pub kept_from : ℕ → List ℕ → Bool
kept_from k [] = true
kept_from k (p ∷ ps) = kept k p && kept_from (suc k) ps

-- 1 to 1,024 objects that keep the rule
abbrev pub parents_ok : List ℕ → Bool
parents_ok ps = ltb 0 (length ps) && leb (length ps) 1024 && kept_from 0 ps

-- ── the live marks ──

-- a mark of 0 is not live, every other is; a place that has none is not
abbrev pub live : List ℕ → ℕ → Bool
live ms k = ltb 0 (get_or ms k 0)

-- a live place hangs under a live one
abbrev pub upheld : List ℕ → ℕ → ℕ → Bool
upheld ms k p = pick (live ms k) (live ms p) true

-- every entry of ps, the first of which is that of place k
unfoldable pub upheld_from : ℕ → List ℕ → List ℕ → Bool
upheld_from k [] ms = true
upheld_from k (p ∷ ps) ms = upheld ms k p && upheld_from (suc k) ps ms

-- the root is live, and a live object's parent is
abbrev pub marks_ok : List ℕ → List ℕ → Bool
marks_ok ps ms = live ms 0 && upheld_from 1 (drop 1 ps) ms

-- ── the ends of the names ──

-- no end is before the one that came before it, or past the buffer
unfoldable pub rises_from : ℕ → List ℕ → ℕ → Bool
rises_from from [] size = true
rises_from from (e ∷ es) size = leb from e && leb e size && rises_from e es size

-- where the name of a place starts and where it ends
abbrev pub start_of : List ℕ → ℕ → ℕ
start_of es k = get_or (0 ∷ es) k 0

abbrev pub end_of : List ℕ → ℕ → ℕ
end_of es k = get_or es k 0

abbrev pub name_bytes : List ℕ → List ℕ → ℕ → List ℕ
name_bytes es ns k = take (end_of es k - start_of es k) (drop (start_of es k) ns)

-- ── 11 ──

-- four lists of 1,024 places
abbrev pub lists_ok : List ℕ → List ℕ → List ℕ → List ℕ → Bool
lists_ok hs ps es ms = eqb (length hs) 1024 && eqb (length ps) 1024 && eqb (length es) 1024 && eqb (length ms) 1024

unfoldable pub table_ok : Table → Bool
table_ok t =
    lists_ok t.handles t.parents t.ends t.marks && leb t.count 1024 && parents_ok (rows t)
    && rises_from 0 (stops t) (length t.names) && marks_ok (rows t) (flags t)

-- ── then 1, 2, 3, name by name ──

-- a name is wholly one string: what the string is refused with, then 3 for bytes after it
unfoldable pub name_at : List ℕ → Answer (Unit {0})
name_at s = after (text_at s 0) λ _ next. pick (eqb next (length s)) (got tt next) (refused (bare TRAIL))

-- the m names from place k on; none is left: so many there are
unfoldable pub names_from : ℕ → ℕ → List ℕ → List ℕ → Answer (Unit {0})
names_from k zero es ns = got tt k
names_from k (suc m) es ns = after (name_at (name_bytes es ns k)) λ _ _. names_from (suc k) m es ns

-- the number of objects, or the first refusal
unfoldable pub table_at : Table → Answer (Unit {0})
table_at t = pick (table_ok t) (names_from 0 (length (stops t)) (stops t) t.names) (refused (bare TABLE))
