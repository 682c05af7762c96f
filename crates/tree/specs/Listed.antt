-- A list that holds what it should once each, in a given order. At most one list does, if of two things never each is before the other (proofs/Alone).
-- Assumes nothing.
use Rattle.std.specs.Prelude.{◌≡◌, Bool, List, [], ◌∷◌, ℕ, ◌+◌, eqb}
use Rattle.layout.specs.Answer.{pick}

-- how often k stands in a list
abbrev pub times : ℕ → List ℕ → ℕ
times k [] = 0
times k (x ∷ l) = pick (eqb k x) 1 0 + times k l

-- each of a list is such
pub data Every (P : ℕ → Type 0) : List ℕ → Type 0 where
  none : Every P []
  more : {x : ℕ} {l : List ℕ} → P x → Every P l → Every P (x ∷ l)

-- each of a list is before all that follow it
pub data Sorted (Before : ℕ → ℕ → Type 0) : List ℕ → Type 0 where
  done : Sorted Before []
  next : {x : ℕ} {l : List ℕ} → Every (Before x) l → Sorted Before l → Sorted Before (x ∷ l)

-- l holds what `has` says, each once, and nothing else, in the order `Before`
pub record Listed (has : ℕ → Bool) (Before : ℕ → ℕ → Type 0) (l : List ℕ) : Type 0 where
  pub once : (k : ℕ) → times k l ≡ pick (has k) 1 0
  pub order : Sorted Before l
