-- What a turn's promise allows is one answer, and one content of the memory that is lent.
-- Assumes nothing.
use Rattle.std.proofs.Common.{◌≡◌, ℕ, List, sym, ◌∙◌}
use Rattle.turns.specs.Turn.{Turned}
use Rattle.copying.specs.declared.Tally.{Tally}
use Rattle.copying.specs.declared.Turn.{Turn}
use Rattle.copying.specs.Turn.{Given, Turns}

pub turns_one : (t : Turned Tally Given) (out report window window' new new' told told' : List ℕ) (x y : Turn) → Turns t out report x window new told → Turns t out report y window' new' told' → (x ≡ y) × (window ≡ window') × (new ≡ new') × (told ≡ told')
turns_one t out report window window' new new' told told' x y p q = (p.answers ∙ sym q.answers, p.keeps ∙ sym q.keeps, p.leaves ∙ sym q.leaves, p.tells ∙ sym q.tells)
