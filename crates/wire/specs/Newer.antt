-- The newer value: which part of which bytes.
-- Assumes nothing.
use Rattle.std.specs.Prelude.{Bool, true, false, List, ℕ, eqb, length, take, drop}
use Rattle.layout.specs.Answer.{Answer, got, refused, pick}
use Rattle.wire.specs.Places.{Located, value_at}
use Rattle.wire.specs.Property.{property_at}
use Rattle.wire.specs.declared.later.Chosen.{Chosen}
use Rattle.wire.specs.Description.{PropInfo}

-- exactly one value of the type, and no byte more
abbrev pub ends_at : ℕ → Answer Located → Bool
ends_at n (got v m) = eqb m n
ends_at n (refused t) = false

abbrev pub fills : ℕ → List ℕ → Bool
fills t s = ends_at (length s) (value_at t s 0)

-- the whole payload, or the bytes of the current value
abbrev pub fresh : List ℕ → Chosen
fresh payload = record { of_payload = true; start = 0; len = length payload }

abbrev pub present : PropInfo → Chosen
present x = record { of_payload = false; start = x.current.start; len = x.current.len }

-- of a refused description: an empty part of it
abbrev pub newer_from : Answer PropInfo → List ℕ → Chosen
newer_from (refused t) payload = record { of_payload = false; start = 0; len = 0 }
newer_from (got x n) payload = pick (fills x.data_type payload) (fresh payload) (present x)

abbrev pub newer_of : Bool → List ℕ → List ℕ → Chosen
newer_of there description payload = newer_from (property_at there description 0) payload

-- the bytes of that part
abbrev pub newer_part : Chosen → List ℕ → List ℕ → List ℕ
newer_part n description payload = take n.len (drop n.start (pick n.of_payload payload description))

abbrev pub newer_bytes : Bool → List ℕ → List ℕ → List ℕ
newer_bytes there description payload = newer_part (newer_of there description payload) description payload
