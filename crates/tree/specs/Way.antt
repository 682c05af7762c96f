-- The places from the root down to a place, and the order of the walk, which goes by them.
-- Assumes nothing.
use Rattle.std.specs.Prelude.{◌≡◌, Bool, List, [], ◌∷◌, ◌++◌, ℕ, zero, suc, ◌<◌, length, ltb, eqb}
use Rattle.layout.specs.Answer.{pick}
use Rattle.tree.specs.Table.{parent}
use Rattle.tree.specs.Listed.{Listed}

-- what the root has is given; what another place has is made of what its parent has. By at most f steps up
unfoldable pub climbed : {A : Type 0} → A → (A → ℕ → A) → ℕ → List ℕ → ℕ → A
climbed root step zero ps k = root
climbed root step (suc f) ps k = pick (eqb k 0) root (step (climbed root step f ps (parent ps k)) k)

-- each step up goes to a smaller place, so k + 1 steps are enough
unfoldable pub from_root : {A : Type 0} → A → (A → ℕ → A) → List ℕ → ℕ → A
from_root root step ps k = climbed root step (suc k) ps k

-- the places from the root down to k, both of them among these
unfoldable pub way : List ℕ → ℕ → List ℕ
way ps k = from_root (0 ∷ []) (λ w p. w ++ p ∷ []) ps k

-- how many places that is: 1 for the root, and one more than its parent's for every other place
unfoldable pub depth : List ℕ → ℕ → ℕ
depth ps k = length (way ps k)

-- two lists of places compared left to right: where they first differ, the smaller place is first; a list comes before each that goes on from it
pub data Left : List ℕ → List ℕ → Type 0 where
  here : {a b : ℕ} {s t : List ℕ} → a < b → Left (a ∷ s) (b ∷ t)
  there : {a : ℕ} {s t : List ℕ} → Left s t → Left (a ∷ s) (a ∷ t)
  stops : {b : ℕ} {t : List ℕ} → Left [] (b ∷ t)

-- by depth, then by the places from the root down, compared left to right
pub data Before (ps : List ℕ) (a b : ℕ) : Type 0 where
  higher : depth ps a < depth ps b → Before ps a b
  beside : depth ps a ≡ depth ps b → Left (way ps a) (way ps b) → Before ps a b

-- the places of a table
abbrev pub within : List ℕ → ℕ → Bool
within ps k = ltb k (length ps)

-- the walk of those places that `has` says: each stands once, in that order
abbrev pub Walk : List ℕ → (ℕ → Bool) → List ℕ → Type 0
Walk ps has l = Listed has (Before ps) l
