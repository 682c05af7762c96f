-- The fields of each layout of the byte layer, of whose first byte a refusal is told. No reader stands here.
-- A string and an array are one field each, with their count; so is each value.
-- Assumes nothing.
use Rattle.std.specs.Prelude.{Bool, true, false, List, [], ◌∷◌, ℕ, zero, suc}
use Rattle.layout.specs.Grammar.{Number}
use Rattle.layout.specs.Spot.{Spot, Nowhere, Here, Past, CountSpot}
use Rattle.wire.specs.Layout.{Value, Enable}

abbrev pub ValueSpot : ℕ → Spot
ValueSpot t = Here (Value t)

abbrev pub RowSpot : List ℕ → Spot
RowSpot [] = Nowhere
RowSpot (t ∷ ts) = Past (Value t) (ValueSpot t) (λ _. RowSpot ts)

abbrev pub FormedSpot : ℕ → ℕ → Spot
FormedSpot t zero = Nowhere
FormedSpot t (suc zero) = Past (Value t) (ValueSpot t) (λ _. Past (Value t) (ValueSpot t) (λ _. ValueSpot t))
FormedSpot t (suc (suc zero)) = CountSpot 2 (Value t) (ValueSpot t)
FormedSpot t (suc (suc (suc n))) = Nowhere

abbrev pub FormSpot : ℕ → Spot
FormSpot t = Past (Number 1) (Here (Number 1)) (FormedSpot t)

-- the `IsEnable` byte is a field where it is there
abbrev pub EnableSpot : Bool → Spot
EnableSpot true = Here (Number 1)
EnableSpot false = Nowhere

abbrev pub PropertySpot : Bool → Spot
PropertySpot there =
    Past (Number 2) (Here (Number 2)) λ code.
    Past (Number 2) (Here (Number 2)) λ type.
    Past (Number 1) (Here (Number 1)) λ getset.
    Past (Enable there) (EnableSpot there) λ enable.
    Past (Value type) (ValueSpot type) λ default.
    Past (Value type) (ValueSpot type) λ current.
    FormSpot type
