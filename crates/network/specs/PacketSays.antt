-- What is answered of a packet's bytes, said with no reader and with the paper's own numbers: each refusal by its condition, in the paper's order
-- (1, 20, 21, then 1 for the rest), and the fields of each kind by their places. `d` is the bytes from the packet's place on.
-- Assumes nothing.
use Rattle.std.specs.Prelude.{◌≡◌, List, ℕ, ◌+◌, ◌-◌, ◌*◌, ◌<◌, length, take, drop}
use Rattle.layout.specs.Answer.{Answer, got, refused, end_at, bare}
use Rattle.layout.specs.Bytes.{number}
use Rattle.wire.specs.Tests.{◌gives◌else◌}
use Rattle.network.specs.Refusals.{PACKET, FIELDS}
use Rattle.network.specs.declared.packet.Packet.{Packet}

-- the number of so many bytes at a place in d
abbrev pub field_in : List ℕ → ℕ → ℕ → ℕ
field_in d at width = number (take width (drop at d))

abbrev pub length_in : List ℕ → ℕ
length_in d = field_in d 0 4

abbrev pub packet_kind_in : List ℕ → ℕ
packet_kind_in d = field_in d 4 4

pub data IsKind : ℕ → Type 0 where
  request : IsKind 6
  response : IsKind 7
  start_data : IsKind 9
  data_packet : IsKind 10
  end_data : IsKind 12

-- a kind, and a length of whole fields: parameters are of four bytes each, and data are any bytes
pub data WholeFields : ℕ → ℕ → Type 0 where
  request_length : (n : ℕ) → WholeFields 6 (18 + 4 * n)
  response_length : (n : ℕ) → WholeFields 7 (14 + 4 * n)
  start_data_length : WholeFields 9 20
  data_packet_length : (n : ℕ) → WholeFields 10 (12 + n)
  end_data_length : (n : ℕ) → WholeFields 12 (12 + n)

-- the fields by the kind, the places of parameters and data counted in the whole bytes; 0 where the kind has none
pub data FieldsIn (at : ℕ) (d : List ℕ) : Packet → Type 0 where
  request_fields : packet_kind_in d ≡ 6 → FieldsIn at d (record { kind = 6; phase = field_in d 8 4; code = field_in d 12 2; number = field_in d 14 4; total = 0; body = record { start = at + 18; count = length_in d - 18 } })
  response_fields : packet_kind_in d ≡ 7 → FieldsIn at d (record { kind = 7; phase = 0; code = field_in d 8 2; number = field_in d 10 4; total = 0; body = record { start = at + 14; count = length_in d - 14 } })
  start_data_fields : packet_kind_in d ≡ 9 → FieldsIn at d (record { kind = 9; phase = 0; code = 0; number = field_in d 8 4; total = field_in d 12 8; body = record { start = at + 20; count = length_in d - 20 } })
  data_packet_fields : packet_kind_in d ≡ 10 → FieldsIn at d (record { kind = 10; phase = 0; code = 0; number = field_in d 8 4; total = 0; body = record { start = at + 12; count = length_in d - 12 } })
  end_data_fields : packet_kind_in d ≡ 12 → FieldsIn at d (record { kind = 12; phase = 0; code = 0; number = field_in d 8 4; total = 0; body = record { start = at + 12; count = length_in d - 12 } })

pub data Accepted (at : ℕ) (d : List ℕ) : Answer Packet → Type 0 where
  accepted : {x : Packet} → FieldsIn at d x → Accepted at d (got x (at + length_in d))

abbrev pub PacketSays : ℕ → List ℕ → Answer Packet → Type 0
PacketSays at d =
    length d < 4 gives refused (end_at at) else
    length d < 8 gives refused (end_at (at + 4)) else
    (IsKind (packet_kind_in d) → ⊥) gives refused (bare PACKET) else
    (WholeFields (packet_kind_in d) (length_in d) → ⊥) gives refused (bare FIELDS) else
    length d < length_in d gives refused (end_at (at + 8)) else
    Accepted at d
