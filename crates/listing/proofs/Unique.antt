-- What a promise allows is one answer, and one content of the memory that is lent: of a window's lines, of a turn.
-- Assumes nothing.
use Rattle.std.proofs.Common.{◌≡◌, ℕ, List, sym, ◌∙◌}
use Rattle.listing.specs.declared.Listed.{Listed}
use Rattle.listing.specs.declared.turn.Turn.{Turn}
use Rattle.listing.specs.Window.{Windowed, Lists}
use Rattle.turns.specs.Turn.{Turned}
use Rattle.listing.specs.Turn.{State, Turns}

pub lists_one : (w : Windowed) (old new new' : List ℕ) (x y : Listed) → Lists w old x new → Lists w old y new' → (x ≡ y) × (new ≡ new')
lists_one w old new new' x y p q = (p.answers ∙ sym q.answers, p.leaves ∙ sym q.leaves)

pub turns_one : (t : Turned State (List ℕ)) (out window window' new new' : List ℕ) (x y : Turn) → Turns t out x window new → Turns t out y window' new' → (x ≡ y) × (window ≡ window') × (new ≡ new')
turns_one t out window window' new new' x y p q = (p.answers ∙ sym q.answers, p.keeps ∙ sym q.keeps, p.leaves ∙ sym q.leaves)
