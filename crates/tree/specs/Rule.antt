-- The table's rule and its refusals in the paper's words. No test and no reader stands here.
-- Assumes nothing.
use Rattle.std.specs.Prelude.{◌≡◌, List, ℕ, ◌≤◌, ◌<◌, length, get_or}
use Rattle.layout.specs.Answer.{Told, end_at, bad_text, bare}
use Rattle.layout.specs.Faithful.{Prefix}
use Rattle.layout.specs.Fault.{Spoilt}
use Rattle.layout.specs.Grammar.{loose}
use Rattle.layout.specs.Refusals.{TRAIL, TABLE}
use Rattle.layout.specs.Spot.{Here}
use Rattle.wire.specs.Faults.{TextFault}
use Rattle.wire.specs.Layout.{Text}
use Rattle.tree.specs.Table.{Table, parent, start_of, end_of, name_bytes}

-- the place has a mark other than 0
abbrev pub Live : Table → ℕ → Type 0
Live t k = 0 < get_or t.marks k 0

pub record Rule (t : Table) : Type 0 where
  -- each list has 1,024 places, and there are 1 to 1,024 objects
  pub handled : length t.handles ≡ 1024
  pub parented : length t.parents ≡ 1024
  pub ended : length t.ends ≡ 1024
  pub marked : length t.marks ≡ 1024
  pub some : 0 < t.count
  pub few : t.count ≤ 1024
  -- place 0 is the root, with the entry 0; every other entry is smaller than its own place
  pub root : parent t.parents 0 ≡ 0
  pub smaller : (k : ℕ) → 0 < k → k < t.count → parent t.parents k < k
  -- the root is live, and so is a live object's parent
  pub root_live : Live t 0
  pub up : (k : ℕ) → 0 < k → k < t.count → Live t k → Live t (parent t.parents k)
  -- no name's end is before its start, or past the name bytes
  pub rises : (k : ℕ) → k < t.count → start_of t.ends k ≤ end_of t.ends k
  pub within : (k : ℕ) → k < t.count → end_of t.ends k ≤ length t.names

-- bytes that are, wholly, a string
abbrev pub Name : List ℕ → Type 0
Name s = (us : List ℕ) × Text loose s us

-- so is each of the first n names
abbrev pub Named : Table → ℕ → Type 0
Named t n = (k : ℕ) → k < n → Name (name_bytes t.ends t.names k)

-- the refusal of bytes that are no name. No string begins there: told of the first byte, as 2 where they begin with a whole one that holds an unpaired surrogate, else as 1.
-- A shorter one does: 3
pub data NameRefused (s : List ℕ) : Told → Type 0 where
  cut : {q : ℕ} → Here Text s q → (Spoilt TextFault s → ⊥) → NameRefused s (end_at q)
  unpaired : {q : ℕ} → Here Text s q → Spoilt TextFault s → NameRefused s (bad_text q)
  trailed : {us : List ℕ} {n : ℕ} → Prefix Text s us n → n < length s → NameRefused s (bare TRAIL)

-- the refusal of a table: 11 where the rule is broken, else that of the first name that is none
pub data TableRefused (t : Table) : Told → Type 0 where
  broken : (Rule t → ⊥) → TableRefused t (bare TABLE)
  unnamed : {k : ℕ} {why : Told} → Rule t → k < t.count → Named t k → NameRefused (name_bytes t.ends t.names k) why → TableRefused t why
