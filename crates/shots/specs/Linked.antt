-- What deleting, collecting and adding leave of a table that keeps its links: what they leave of the table, and the links of the table that is left.
-- Assumes nothing.
use Rattle.std.specs.Prelude.{◌≡◌, List, ℕ}
use Rattle.layout.specs.Answer.{Answer}
use Rattle.layout.specs.Written.{Wrote}
use Rattle.tree.specs.Links.{Relinked, Keeping}
use Rattle.tree.specs.Table.{Table}
use Rattle.shots.specs.Deleted.{deleted, delete_said}
use Rattle.shots.specs.Collected.{collected, Lists, Collected}
use Rattle.shots.specs.Added.{added_to, add_at, Adds}

abbrev pub DeletedLinked : Table → List ℕ → List ℕ → ℕ → Answer (Unit {0}) → List ℕ → List ℕ → List ℕ → Type 0
DeletedLinked t fs ns place answer ms fs' ns' =
    Keeping t fs ns answer (Wrote (delete_said t place) t.marks answer ms × Relinked (deleted t place) fs ns answer fs' ns') ((ms ≡ t.marks) × (fs' ≡ fs) × (ns' ≡ ns))

abbrev pub CollectedLinked : Table → List ℕ → List ℕ → List ℕ → Answer (Unit {0}) → List ℕ → List ℕ → List ℕ → List ℕ → List ℕ → List ℕ → List ℕ → List ℕ → Type 0
CollectedLinked t fs ns old answer hs ps es ms bs fs' ns' new =
    Keeping t fs ns answer (Collected t old answer hs ps es ms bs new × Relinked (collected t) fs ns answer fs' ns') (Lists t hs ps es ms bs × (fs' ≡ fs) × (ns' ≡ ns) × (new ≡ old))

abbrev pub AddsLinked : Table → List ℕ → List ℕ → List ℕ → ℕ → ℕ → List ℕ → Answer (Unit {0}) → List ℕ → List ℕ → List ℕ → List ℕ → List ℕ → List ℕ → List ℕ → List ℕ → Type 0
AddsLinked t fs ns old parent handle name answer hs ps es ms bs fs' ns' new =
    Keeping t fs ns answer (Adds (add_at t old parent name) t old parent handle name answer hs ps es ms bs new × Relinked (added_to t parent handle name) fs ns answer fs' ns')
    (Lists t hs ps es ms bs × (fs' ≡ fs) × (ns' ≡ ns) × (new ≡ old))
