-- How kept parts and dropped stretches lie in the bytes.
-- Assumes nothing.
use Rattle.std.specs.Prelude.{◌≡◌, ℕ, ◌+◌, ◌<◌, ◌≤◌, List, [], ◌∷◌, drop}
use Rattle.layout.specs.Answer.{Told, got, refused}
use Rattle.wire.specs.Returned.{part_of}
use Rattle.wire.specs.declared.Part.{Part}
use Rattle.recording.specs.Content.{Record}
use Rattle.recording.specs.Record.{record_of}

abbrev pub total : List ℕ → ℕ
total [] = 0
total (n ∷ ns) = n + total ns

abbrev pub Each : (Part → Type 0) → List Part → Type 0
Each P [] = Unit {0}
Each P (p ∷ ps) = P p × Each P ps

-- two lists, merged by start, go from the one place to the other without a gap or an overlap; no part is empty
pub data Tiles : ℕ → List Part → List Part → ℕ → Type 0 where
  all_laid : {from end : ℕ} → from ≡ end → Tiles from [] [] end
  next_kept : {from end : ℕ} {p : Part} {ks ds : List Part} → p.start ≡ from → 0 < p.count → Tiles (from + p.count) ks ds end → Tiles from (p ∷ ks) ds end
  next_dropped : {from end : ℕ} {p : Part} {ks ds : List Part} → p.start ≡ from → 0 < p.count → Tiles (from + p.count) ks ds end → Tiles from ks (p ∷ ds) end

-- starts rise from a place on, no part is empty, and none touches the next
abbrev pub Apart : ℕ → List Part → Type 0
Apart n [] = Unit {0}
Apart n (p ∷ ps) = (n ≤ p.start) × (0 < p.count) × Apart (p.start + p.count + 1) ps

-- at the place no acceptable record stands, with all bytes up to the end in sight
abbrev pub StandsNone : List ℕ → ℕ → Type 0
StandsNone s i = (t : Told) × (refused t ≡ record_of (drop i s))

-- at each place of a stretch
abbrev pub Missed : List ℕ → Part → Type 0
Missed s p = (i : ℕ) → p.start ≤ i → i < p.start + p.count → StandsNone s i

-- the records of w are those that stand in s at the parts: the same kinds and the same bodies, in order
pub data Matches (s w : List ℕ) : List Part → List Record → Type 0 where
  no_more : Matches s w [] []
  and_one : {p : Part} {x y : Record} {ps : List Part} {ys : List Record} → got x p.count ≡ record_of (drop p.start s) → x.kind ≡ y.kind →
      part_of (drop p.start s) x.body ≡ part_of w y.body → Matches s w ps ys → Matches s w (p ∷ ps) (y ∷ ys)
