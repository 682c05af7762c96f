-- Bytes that were put at the front of an output.
-- Assumes nothing.
use Rattle.std.proofs.Common.{◌≡◌, ℕ, ◌≤◌, List, length, ◌∙◌, zero-add}
use Rattle.layout.specs.Written.{Put}
use Rattle.layout.proofs.laws.Writing.{put_front}
use Rattle.turns.specs.Held.{fronted}

pub put_fronted : {old bs new : List ℕ} {n : ℕ} → length bs ≤ length old → Put old 0 bs new n → (n ≡ length bs) × (new ≡ fronted bs old)
put_fronted {old} {bs} h p = (p.place ∙ zero-add (length bs), p.bytes ∙ put_front old bs h)
