-- A damaged recording, mended: from the front, where an acceptable record stands it is kept, and where none does one byte is passed over and the next place is tried.
-- The kept records come out in order, and the dropped bytes are told by stretches, adjoining ones joined.
-- Assumes nothing.
use Rattle.std.specs.Prelude.{Ok, Err}
use Rattle.std.specs.declared.result.Result.{Result}
use Rattle.layout.specs.declared.Refusal.{Refusal}
use Rattle.std.specs.Prelude.{◌≡◌, ℕ, zero, suc, ◌+◌, ◌-◌, Bool, false, List, [], ◌∷◌, ◌++◌, map, length, drop, nat_le, nat_lt}
use Rattle.layout.specs.Answer.{Answer, got, refused, bare, pick}
use Rattle.layout.specs.Refusals.{ROOM}
use Rattle.wire.specs.Returned.{part_of}
use Rattle.wire.specs.declared.Part.{Part}
use Rattle.turns.specs.Held.{fronted}
use Rattle.recording.specs.Content.{Record}
use Rattle.recording.specs.Record.{record_of}

-- ── the pieces of the bytes ──

abbrev pub part : ℕ → ℕ → Part
part start count = record { start = start; count = count }

-- a record that is kept, or a byte that is passed over
pub data Piece : Type 0 where
  kept : Part → Piece
  dropped : Part → Piece

-- what stands at the front of the bytes, whose first has this place, and what follows it
abbrev pub pieced : ℕ → Answer Record → (ℕ → List Piece) → List Piece
pieced place (got x n) rest = kept (part place n) ∷ rest n
pieced place (refused t) rest = dropped (part place 1) ∷ rest 1

-- at most `fuel` of them
unfoldable pub cut_from : ℕ → ℕ → List ℕ → List Piece
cut_from zero place s = []
cut_from (suc fuel) place s = pick (nat_lt 0 (length s)) (pieced place (record_of s) λ n. cut_from fuel (place + n) (drop n s)) []

-- of bytes from a place on: each piece takes bytes, so there are no more than the bytes are
unfoldable pub cut_at : ℕ → List ℕ → List Piece
cut_at place s = cut_from (length s) place s

abbrev pub cut_of : List ℕ → List Piece
cut_of s = cut_at 0 s

-- ── what is kept ──

unfoldable pub kept_in : List Piece → List Part
kept_in [] = []
kept_in (kept p ∷ ps) = p ∷ kept_in ps
kept_in (dropped p ∷ ps) = kept_in ps

unfoldable pub kept_of : List ℕ → List Part
kept_of s = kept_in (cut_of s)

-- the bytes of parts, end to end
unfoldable pub parts_of : List ℕ → List Part → List ℕ
parts_of s [] = []
parts_of s (p ∷ ps) = part_of s p ++ parts_of s ps

-- what comes out
unfoldable pub mend_said : List ℕ → List ℕ
mend_said s = parts_of s (kept_of s)

-- ── what is dropped ──

-- the stretch of so many bytes before a place; no stretch is empty
abbrev pub stretch : ℕ → ℕ → List Part
stretch place untold = pick (nat_lt 0 untold) (part (place - untold) untold ∷ []) []

-- after so many dropped bytes before the place, which are not told yet: one more makes the stretch longer, and a kept record closes it, as the end does
unfoldable pub joined_in : ℕ → ℕ → List Piece → List Part
joined_in place untold [] = stretch place untold
joined_in place untold (kept p ∷ ps) = stretch place untold ++ joined_in (place + p.count) 0 ps
joined_in place untold (dropped p ∷ ps) = joined_in (place + p.count) (untold + p.count) ps

unfoldable pub dropped_of : List ℕ → List Part
dropped_of s = joined_in 0 0 (cut_of s)

abbrev pub starts_of : List Part → List ℕ
starts_of ps = map (λ p. p.start) ps

abbrev pub lengths_of : List Part → List ℕ
lengths_of ps = map (λ p. p.count) ps

-- ── what is answered, and what is left of both outputs ──

-- the report's room is counted in stretches: the shorter of its two lists
unfoldable pub least : ℕ → ℕ → ℕ
least x y = pick (nat_le x y) x y

unfoldable pub has_room : List ℕ → ℕ → ℕ → Bool
has_room s room slots = pick (nat_le (length (mend_said s)) room) (nat_le (length (dropped_of s)) slots) false

-- how many bytes were written, and how many stretches; or 9
unfoldable pub mend_of : List ℕ → Bool → Answer ℕ
mend_of s roomy = pick roomy (got (length (dropped_of s)) (length (mend_said s))) (refused (bare ROOM))

pub record Mends (s out starts lengths : List ℕ) (answer : Answer ℕ) (out' starts' lengths' : List ℕ) : Type 0 where
  pub answers : answer ≡ mend_of s (has_room s (length out) (least (length starts) (length lengths)))
  pub bytes : out' ≡ pick (has_room s (length out) (least (length starts) (length lengths))) (fronted (mend_said s) out) out
  pub starts_so : starts' ≡ pick (has_room s (length out) (least (length starts) (length lengths))) (fronted (starts_of (dropped_of s)) starts) starts
  pub lengths_so : lengths' ≡ pick (has_room s (length out) (least (length starts) (length lengths))) (fronted (lengths_of (dropped_of s)) lengths) lengths

-- ── this paper's values for each case ──

abbrev pub says_mended : (Result (ℕ × ℕ) Refusal) → Answer ℕ
says_mended (Ok (n, stretches)) = got stretches n
says_mended (Err t) = refused t
