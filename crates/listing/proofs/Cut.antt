-- What waits is nothing, or a record that is cut; so a window has room for more after it, and a whole record waits for nothing.
-- Assumes nothing.
use Rattle.std.proofs.Common.{◌≡◌, ℕ, ◌+◌, ◌<◌, ◌≤◌, Bool, true, false, ltb, List, length, refl, arith, ltb-false, le-ltb, lt-ltb}
use Rattle.layout.specs.Answer.{got, pick}
use Rattle.layout.proofs.laws.Accepted.{accepted}
use Rattle.layout.proofs.laws.Reading.{pick_alike}
use Rattle.layout.proofs.laws.Numbers.{zero_one}
use Rattle.recording.specs.Content.{Record}
use Rattle.recording.specs.Record.{limit, record_of}
use Rattle.recording.specs.Row.{is_cut, waits}
use Rattle.recording.proofs.laws.Rowed.{record_stands, cut_short, whole_uncut}
use Rattle.listing.specs.Window.{pauses}

-- a record that waits; none; and one that is refused, whatever follows
pub pauses_cut : (last : Bool) (s : List ℕ) → waits last s ≡ true → pauses last s ≡ true
unfolding pauses
pauses_cut last s e = rw e (pick_alike (ltb 0 (length s)) true)

pub pauses_none : (last : Bool) (s : List ℕ) → length s ≤ 0 → pauses last s ≡ true
unfolding pauses
pauses_none last s h = rw (le-ltb 0 (length s) h)

pub pauses_not : (last : Bool) (s : List ℕ) → 0 < length s → waits last s ≡ false → pauses last s ≡ false
unfolding pauses
pauses_not last s h e = rw (lt-ltb 0 (length s) h, e)

-- what waits at the end of the input is nothing; elsewhere it is shorter than the longest record
pub waits_last : (s : List ℕ) → pauses true s ≡ true → length s ≤ 0
unfolding pauses waits
waits_last s e = go (ltb 0 (length s)) refl e
  where
    go : (b : Bool) → ltb 0 (length s) ≡ b → pick b false true ≡ true → length s ≤ 0
    go true h e = zero_one (cc)
    go false h e = ltb-false 0 (length s) h

pub waits_short : (s : List ℕ) → pauses false s ≡ true → length s < 6 + limit
unfolding pauses waits
waits_short s e = go (ltb 0 (length s)) refl e
  where
    go : (b : Bool) → ltb 0 (length s) ≡ b → pick b (is_cut s) true ≡ true → length s < 6 + limit
    go true h e = cut_short s e
    go false h e = omega (arith, ltb-false 0 (length s) h)

-- a whole record waits for nothing
pub whole_ready : (last : Bool) (s : List ℕ) {x : Record} {n : ℕ} → got x n ≡ record_of s → pauses last s ≡ false
unfolding pauses waits
whole_ready last s e = let p = accepted _ (record_stands s) e in rw (lt-ltb 0 (length s) (omega (arith, p.till, p.within)), whole_uncut s e) (pick_alike last false)
