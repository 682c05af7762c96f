-- What a refusal tells, beside its number: a place, of a reader's 1 and 2 and of no other.
-- Assumes nothing.
use Rattle.std.specs.Prelude.{◌≡◌, true, false, ◌↔◌, ◌⊎◌, ℕ, ◌≤◌}
use Rattle.layout.specs.Answer.{Told, Answer, refused}
use Rattle.layout.specs.Refusals.{END, TEXT}

-- a refusal has a place exactly where its number is 1 or 2; where it has none, 0 stands for it
pub record PlacedExactly {A : Type 0} (x : Answer A) : Type 0 where
  pub exactly : (t : Told) → x ≡ refused t → (t.placed ≡ true) ↔ ((t.no ≡ END) ⊎ (t.no ≡ TEXT))
  pub else_none : (t : Told) → x ≡ refused t → t.placed ≡ false → t.at ≡ 0

-- and the place lies in bytes of that length, or at their end
abbrev pub Inside : {A : Type 0} → ℕ → Answer A → Type 0
Inside size x = (t : Told) → x ≡ refused t → t.at ≤ size
