-- What the two searches go past: bytes at which no record stands, and records one after the other.
-- Assumes nothing.
use Rattle.std.specs.Prelude.{◌≡◌, ℕ, ◌+◌, ◌-◌, ◌<◌, ◌≤◌, Bool, true, false, List, length, drop}
use Rattle.layout.specs.Answer.{Told, got, refused}
use Rattle.recording.specs.Content.{Record}
use Rattle.recording.specs.Record.{record_of}
use Rattle.recording.specs.Row.{waits}
use Rattle.mending.specs.declared.search.Run.{Run}

-- at each place from the one up to the other no record stands, whatever follows
pub data Drops (last : Bool) (s : List ℕ) (from : ℕ) : ℕ → Type 0 where
  none_dropped : Drops last s from from
  one_dropped : {at : ℕ} {t : Told} → Drops last s from at → at < length s → waits last (drop at s) ≡ false → refused t ≡ record_of (drop at s) → Drops last s from (at + 1)

-- from the one place up to the other stand so many records
pub data Keeps (s : List ℕ) (from : ℕ) : ℕ → ℕ → Type 0 where
  none_kept : Keeps s from from 0
  one_kept : {at k n : ℕ} {x : Record} → Keeps s from at k → at < length s → got x n ≡ record_of (drop at s) → Keeps s from (at + n) (k + 1)

-- why no more bytes are dropped
pub data Held (last : Bool) (s : List ℕ) (at : ℕ) : Type 0 where
  at-end : length s ≤ at → Held last s at
  waiting : at < length s → waits last (drop at s) ≡ true → Held last s at
  stands : {x : Record} {n : ℕ} → at < length s → got x n ≡ record_of (drop at s) → Held last s at

-- why no more records are kept
pub data Ended (room : ℕ) (s : List ℕ) (at : ℕ) : Type 0 where
  no_bytes : length s ≤ at → Ended room s at
  stands_none : {t : Told} → refused t ≡ record_of (drop at s) → Ended room s at
  no_room : {x : Record} {n : ℕ} → got x n ≡ record_of (drop at s) → room < n → Ended room s at

-- what the searches answer
pub record Gap (last : Bool) (s : List ℕ) (from at : ℕ) : Type 0 where
  pub drops : Drops last s from at
  pub held : Held last s at
  pub least : from ≤ at
  pub within : at ≤ length s

pub record Row (s : List ℕ) (from room : ℕ) (r : Run) : Type 0 where
  pub keeps : Keeps s from r.end r.records
  pub ended : Ended (room - (r.end - from)) s r.end
  pub least : from ≤ r.end
  pub within : r.end ≤ length s
  pub fits : r.end - from ≤ room
  pub few : r.records ≤ r.end - from
