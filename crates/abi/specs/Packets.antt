-- What each number of an answer about a packet is, and which direction the caller names.
-- Assumes nothing.
use Rattle.std.specs.Prelude.{ℕ, Bool, true, false, List, [], ◌∷◌, ◌==◌}
use Rattle.layout.specs.Answer.{pick}
use Rattle.network.specs.declared.packet.Packet.{Packet}
use Rattle.network.specs.declared.translate.Direction.{Direction}
use Rattle.network.specs.declared.translate.Direction.TheVariants as direction

-- data go to the camera, or come from it
abbrev pub direction_of : Bool → Direction
direction_of true = direction.Out
direction_of false = direction.In

-- where parameters or data begin; start data has neither, and so 0
abbrev pub body_start : Packet → ℕ
body_start x = pick (x.kind == 9) 0 x.body.start

-- kind, phase, code, number, total, and where parameters or data begin and how many bytes they are; 0 where the kind has none
abbrev pub packet_row : Packet → List ℕ
packet_row x = x.kind ∷ x.phase ∷ x.code ∷ x.number ∷ x.total ∷ body_start x ∷ x.body.count ∷ []
