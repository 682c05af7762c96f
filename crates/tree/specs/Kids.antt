-- The live places with a given parent, in rising order.
-- Assumes nothing.
use Rattle.std.specs.Prelude.{Bool, ◌&&◌, List, [], ◌∷◌, ℕ, zero, suc, ◌-◌, length, eqb}
use Rattle.layout.specs.Answer.{pick}
use Rattle.tree.specs.Table.{parent}

-- whether k is marked and its parent is p
abbrev pub hangs : List ℕ → (ℕ → Bool) → ℕ → ℕ → Bool
hangs ps has p k = has k && eqb (parent ps k) p

-- of m places from k on, the marked ones with the parent p
unfoldable pub kids_in : ℕ → List ℕ → (ℕ → Bool) → ℕ → ℕ → List ℕ
kids_in zero ps has k p = []
kids_in (suc m) ps has k p = pick (hangs ps has p k) (k ∷ kids_in m ps has (suc k) p) (kids_in m ps has (suc k) p)

-- the marked places behind p with the parent p
unfoldable pub kids : List ℕ → (ℕ → Bool) → ℕ → List ℕ
kids ps has p = kids_in (length ps - suc p) ps has (suc p) p
