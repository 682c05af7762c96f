-- Demand 3 of a reader of places, at any place: what layout's `Exact` has of the first byte.
-- Assumes nothing.
use Rattle.std.specs.Prelude.{◌≡◌, List, ℕ, ◌+◌, ◌-◌, ◌≤◌, drop}
use Rattle.layout.specs.Answer.{Answer, got}
use Rattle.layout.specs.Faithful.{Prefix}
use Rattle.layout.specs.Grammar.{Grammar}
use Rattle.layout.specs.Placed.{Lies}

-- what was answered of the bytes s at a place
pub record ExactAt {R L : Type 0} (G : Grammar R) (mean : L → R) (parts : L → List (ℕ × ℕ)) (s : List ℕ) (at : ℕ) (x : Answer L) : Type 0 where
  -- what is accepted is a word there, up to n, and means its reading
  pub accepts : (l : L) (n : ℕ) → x ≡ got l n → (at ≤ n) × Prefix G (drop at s) (mean l) (n - at)
  -- every word there is accepted so
  pub reaches : (r : R) (n : ℕ) → Prefix G (drop at s) r n → (l : L) × (x ≡ got l (at + n)) × (mean l ≡ r)
  -- every part of the answer lies in that word
  pub inside : Lies parts at x
