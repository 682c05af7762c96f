-- `mend` needs exactly the kept lengths' sum and a place for each stretch in either list: the kept parts lie in the bytes (they are laid end to end with the stretches), so that what comes
-- out is as long as their lengths together.
-- Assumes nothing.
use Rattle.std.proofs.Common.{◌≡◌, ℕ, ◌<◌, ◌≤◌, Bool, true, false, leb, ◌↔◌, List, [], ◌∷◌, length, take, drop, sym, refl, ap, ◌∙◌, arith, length-append, length-drop, length-take-le, leb-false, leb-true}
use lib.ListN.{length-map}
use lib.Seq.{take-append_seam}
use Rattle.layout.specs.Answer.{Told, got, refused, bare, pick}
use Rattle.layout.specs.Refusals.{ROOM}
use Rattle.layout.proofs.laws.Numbers.{zero_one}
use Rattle.turns.specs.Held.{fronted}
use Rattle.wire.specs.Returned.{part_of}
use Rattle.wire.specs.declared.Part.{Part}
use Rattle.mending.specs.Laid.{total, Tiles, all_laid, next_kept, next_dropped}
use Rattle.mending.specs.Mended.{kept_of, parts_of, mend_said, dropped_of, starts_of, lengths_of, least, has_room, mend_of, Mends, says_mended}
use Rattle.mending.specs.Room.{TooShort, for_records, for_starts, for_lengths, stretches_in}
use Rattle.std.specs.declared.result.Result.{Result}
use Rattle.layout.specs.declared.Refusal.{Refusal}
use Rattle.mending.proofs.MendedExact.{pieces_tile}

-- ── how much comes out ──

tiles_ahead : {from end : ℕ} {ks ds : List Part} → Tiles from ks ds end → from ≤ end
tiles_ahead (all_laid e) = omega arith
tiles_ahead (next_kept e h t) = omega (arith, tiles_ahead t)
tiles_ahead (next_dropped e h t) = omega (arith, tiles_ahead t)

parts_long : (s : List ℕ) {from end : ℕ} {ks ds : List Part} → end ≤ length s → Tiles from ks ds end → length (parts_of s ks) ≡ total (lengths_of ks)
unfolding parts_of
parts_long s h (all_laid e) = refl
parts_long s h (next_kept {p = p} {ks = ks} e k t) =
    omega (arith, length-append (part_of s p) (parts_of s ks), length-take-le p.count (drop p.start s) (omega (arith, length-drop p.start s, tiles_ahead t)), parts_long s h t)
parts_long s h (next_dropped e k t) = parts_long s h t

pub kept_long : (s : List ℕ) → length (mend_said s) ≡ total (lengths_of (kept_of s))
unfolding mend_said
kept_long s = parts_long s (omega arith) (pieces_tile s)

-- ── the report ──

front_of : (v old : List ℕ) {n : ℕ} → length v ≡ n → take n (fronted v old) ≡ v
front_of v old e = ap (λ n. take n (fronted v old)) (sym e) ∙ take-append_seam v (drop (length v) old)

side_by_side : (ps : List Part) → stretches_in (starts_of ps) (lengths_of ps) ≡ ps
side_by_side [] = refl
side_by_side (p ∷ ps) = ap (λ l. p ∷ l) (side_by_side ps)

-- ── the answer ──

-- with room for all, or not
data Rooms (s out starts lengths : List ℕ) : Bool → Type 0 where
  roomy : (TooShort s out starts lengths → ⊥) → Rooms s out starts lengths true
  short : TooShort s out starts lengths → Rooms s out starts lengths false

module _ (s out starts lengths : List ℕ) where
  few : least (length starts) (length lengths) < length (dropped_of s) → TooShort s out starts lengths
  unfolding least
  few = go (leb (length starts) (length lengths))
    where
      go : (b : Bool) → pick b (length starts) (length lengths) < length (dropped_of s) → TooShort s out starts lengths
      go true h = for_starts h
      go false h = for_lengths h

  many : length (dropped_of s) ≤ least (length starts) (length lengths) → (length (dropped_of s) ≤ length starts) × (length (dropped_of s) ≤ length lengths)
  unfolding least
  many = go (leb (length starts) (length lengths)) refl
    where
      go : (b : Bool) → leb (length starts) (length lengths) ≡ b → length (dropped_of s) ≤ pick b (length starts) (length lengths) → (length (dropped_of s) ≤ length starts) × (length (dropped_of s) ≤ length lengths)
      go true e h = (h, omega (arith, leb-true (length starts) (length lengths) e))
      go false e h = (omega (arith, leb-false (length starts) (length lengths) e), h)

  rooms : Rooms s out starts lengths (has_room s (length out) (least (length starts) (length lengths)))
  unfolding has_room
  rooms = go (leb (length (mend_said s)) (length out)) refl (leb (length (dropped_of s)) (least (length starts) (length lengths))) refl
    where
      none : length (mend_said s) ≤ length out → length (dropped_of s) ≤ least (length starts) (length lengths) → TooShort s out starts lengths → ⊥
      none h k (for_records l) = omega (arith, kept_long s)
      none h k (for_starts l) = omega (arith, (many k).0)
      none h k (for_lengths l) = omega (arith, (many k).1)

      go : (a : Bool) → leb (length (mend_said s)) (length out) ≡ a → (b : Bool) → leb (length (dropped_of s)) (least (length starts) (length lengths)) ≡ b → Rooms s out starts lengths (pick a b false)
      go true e true f = roomy (none (leb-true (length (mend_said s)) (length out) e) (leb-true (length (dropped_of s)) (least (length starts) (length lengths)) f))
      go true e false f = short (few (leb-false (length (dropped_of s)) (least (length starts) (length lengths)) f))
      go false e b f = short (for_records (omega (arith, leb-false (length (mend_said s)) (length out) e, kept_long s)))

  -- ── of the function's own answer ──

  module _ {o a b : List ℕ} (r : Result (ℕ × ℕ) Refusal) (promised : Mends s out starts lengths (says_mended r) o a b) where
    judged : {c : Bool} → Rooms s out starts lengths c → says_mended r ≡ mend_of s c →
        ((says_mended r ≡ refused (bare ROOM)) ↔ TooShort s out starts lengths) × ((TooShort s out starts lengths → ⊥) → says_mended r ≡ got (length (dropped_of s)) (total (lengths_of (kept_of s)))) ×
        ((t : Told) → says_mended r ≡ refused t → t ≡ bare ROOM)
    unfolding mend_of
    judged (roomy none) e = ((λ f. zero_one (cc), λ f. absurd (none f)), λ _. e ∙ ap (got (length (dropped_of s))) (kept_long s), λ t f. zero_one (cc))
    judged (short some) e = ((λ _. some, λ _. e), λ none. absurd (none some), λ t f. let g = sym e ∙ f in cc)

    -- 9 exactly where one of the three is too short
    pub mend_room : says_mended r ≡ refused (bare ROOM) ↔ TooShort s out starts lengths
    mend_room = (judged rooms promised.answers).0

    -- else it is done, with these numbers; and no other refusal is given
    pub mend_done : (TooShort s out starts lengths → ⊥) → says_mended r ≡ got (length (dropped_of s)) (total (lengths_of (kept_of s)))
    mend_done = (judged rooms promised.answers).1

    pub mend_only_9 : (t : Told) → says_mended r ≡ refused t → t ≡ bare ROOM
    mend_only_9 = (judged rooms promised.answers).2

    -- and the lists' fronts tell the dropped stretches
    pub mend_tells : (TooShort s out starts lengths → ⊥) → stretches_in (take (length (dropped_of s)) a) (take (length (dropped_of s)) b) ≡ dropped_of s
    mend_tells none = go rooms promised.starts_so promised.lengths_so
      where
        go : {c : Bool} → Rooms s out starts lengths c → a ≡ pick c (fronted (starts_of (dropped_of s)) starts) starts → b ≡ pick c (fronted (lengths_of (dropped_of s)) lengths) lengths →
            stretches_in (take (length (dropped_of s)) a) (take (length (dropped_of s)) b) ≡ dropped_of s
        go (roomy f) e g = rw (e, g, front_of (starts_of (dropped_of s)) starts (length-map (dropped_of s) (λ p. p.start)), front_of (lengths_of (dropped_of s)) lengths (length-map (dropped_of s) (λ p. p.count))) (side_by_side (dropped_of s))
        go (short f) e g = absurd (none f)
