-- An entry's content, field by field as specs/Layout has it: where it is refused for a text, and the field that a refusal is told of. No reader stands here.
-- Assumes nothing.
use Rattle.std.specs.Prelude.{Bool, true, false, eqb}
use Rattle.layout.specs.Fault.{Fault, Clean, Along}
use Rattle.layout.specs.Grammar.{Number}
use Rattle.layout.specs.Spot.{Spot, Nowhere, Here, Past}
use Rattle.wire.specs.Faults.{TextFault, ValueFault}
use Rattle.wire.specs.Layout.{Text}
use Rattle.wire.specs.Spots.{ValueSpot}
use Rattle.settings.specs.Layout.{OWN, Keyed}

-- ── a text: the serial's, or one of the value ──

abbrev pub SerialFault : Bool → Fault
SerialFault true = TextFault
SerialFault false = Clean

abbrev pub KeyFault : Fault
KeyFault =
    Along (Number 2) Clean λ kind.
    Along (Number 4) Clean λ vendor.
    Along (Number 2) Clean λ property.
    SerialFault (eqb kind OWN)

abbrev pub ContentFault : Fault
ContentFault =
    Along Keyed KeyFault λ key.
    Along (Number 2) Clean λ type.
    ValueFault type

-- ── the field ──

abbrev pub SerialSpot : Bool → Spot
SerialSpot true = Here Text
SerialSpot false = Nowhere

abbrev pub KeySpot : Spot
KeySpot =
    Past (Number 2) (Here (Number 2)) λ kind.
    Past (Number 4) (Here (Number 4)) λ vendor.
    Past (Number 2) (Here (Number 2)) λ property.
    SerialSpot (eqb kind OWN)

abbrev pub ContentSpot : Spot
ContentSpot =
    Past Keyed KeySpot λ key.
    Past (Number 2) (Here (Number 2)) λ type.
    ValueSpot type
