-- What a promise allows is one answer, and one content of the memory that is lent: of what is kept of a window.
-- Assumes nothing.
use Rattle.std.proofs.Common.{◌≡◌, ℕ, List, sym, ◌∙◌}
use Rattle.turns.specs.Held.{Kept}

pub kept_one : (old new new' : List ℕ) (from held i j : ℕ) → Kept old from held i new → Kept old from held j new' → (i ≡ j) × (new ≡ new')
kept_one old new new' from held i j p q = (p.count ∙ sym q.count, p.leaves ∙ sym q.leaves)
