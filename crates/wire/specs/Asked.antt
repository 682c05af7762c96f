-- What is answered of the n-th, from 0, of numbers that stand one after the other: a string's units, an array's items.
-- Assumes nothing.
use Rattle.std.specs.Prelude.{◌≡◌, List, ◌∷◌, ◌++◌, ℕ, ◌+◌, ◌*◌, ◌≤◌, length}
use Rattle.layout.specs.Answer.{Answer, got, refused, bare}
use Rattle.layout.specs.Refusals.{PLACE}

-- the numbers xs stand from a place on, in w bytes each
pub data NthOf (xs : List ℕ) (start w n : ℕ) : Answer ℕ → Type 0 where
  -- that before which n others stand, with the place after it
  found : (before after : List ℕ) (x : ℕ) → xs ≡ before ++ x ∷ after → length before ≡ n → NthOf xs start w n (got x (start + n * w + w))
  -- 12 past the last
  past : length xs ≤ n → NthOf xs start w n (refused (bare PLACE))
