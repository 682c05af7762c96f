-- What the crate's own functions promise each other, and no public one names.
-- Assumes nothing.
use Rattle.std.specs.Prelude.{◌≡◌, Bool, true, false, List, [], ℕ, ◌+◌, ◌≤◌, length, IfOk}
use Rattle.layout.specs.Answer.{Answer, got, refused, Reader, means}
use Rattle.wire.specs.Read.{Read, says_read}
use Rattle.network.specs.Packet.{packet_at}
use Rattle.network.specs.Translated.{items_in, folded, none_seen, data_in}
use Rattle.network.specs.declared.packet.Packet.{Packet}
use Rattle.network.specs.declared.see.Seen.{Seen}
use Rattle.network.specs.declared.translate.Direction.{Direction}
use Rattle.network.specs.declared.translate.Direction.TheVariants as direction

abbrev pub phase_if : Direction → Bool → ℕ
phase_if d false = 1
phase_if direction.In true = 1
phase_if direction.Out true = 2

-- the parts that were seen lie in the bytes
pub record Within (s : List ℕ) (t : Seen) : Type 0 where
  pub params : t.params.start + t.params.count ≤ length s
  pub payload : t.payload.start + t.payload.count ≤ length s
  pub results : t.results.start + t.results.count ≤ length s

pub record Sees {A : Type 0} (read : Reader A) (look : Seen → A → Seen) (s : List ℕ) (r : Read Seen) : Type 0 where
  pub says : says_read r ≡ means (folded look none_seen) (items_in read s)
  pub within : IfOk r (λ x. Within s x.0)

abbrev pub readings : {A : Type 0} → Answer (List A) → List A
readings (got xs n) = xs
readings (refused t) = []

-- the bytes are whole packets
abbrev pub AllPackets : List ℕ → Type 0
AllPackets s = (xs : List Packet) × (m : ℕ) × (items_in packet_at s ≡ got xs m)

abbrev pub data_of : List ℕ → List ℕ
data_of s = data_in s (readings (items_in packet_at s))
