-- A recording mended, with one number more beside the answer: how many stretches were told.
-- Assumes nothing.
use Rattle.std.specs.Prelude.{◌≡◌, ℕ, ◌<◌, ◌≤◌, List, ◌∷◌, length, drop}
use Rattle.layout.specs.Answer.{Answer, got, refused, bare}
use Rattle.layout.specs.Refusals.{ROOM}
use Rattle.mending.specs.Mended.{Mends}

-- the number at the front, and all past it as it was; as it was where mending is refused
abbrev pub count_after : List ℕ → Answer ℕ → List ℕ
count_after counts (got n m) = n ∷ drop 1 counts
count_after counts (refused t) = counts

-- what mending answers and leaves; and 9 before all where the number has no room
pub record MendsCounted (s out starts lengths counts : List ℕ) (out' starts' lengths' counts' : List ℕ) (answer : Answer ℕ) : Type 0 where
  pub roomy : 0 < length counts → Mends s out starts lengths answer out' starts' lengths' × (counts' ≡ count_after counts answer)
  pub short : length counts ≤ 0 → (answer ≡ refused (bare ROOM)) × (out' ≡ out) × (starts' ≡ starts) × (lengths' ≡ lengths) × (counts' ≡ counts)
