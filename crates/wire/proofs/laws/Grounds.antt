-- For crates above: that values, rows and descriptions are read as their grammar has it (`Exact`), and which refusal and place where they are not (`Points`), of the readers of places
-- that contracts name. Each is one line of layout's laws.
-- Assumes nothing.
use mathlib.Core.Bool.{Bool}
use mathlib.Core.Path.{refl}
use mathlib.Core.List.{List}
use Prim.Native.Nat.{ℕ}
use lib.ListN.{drop}
use Rattle.layout.specs.Bytes.{Bytes}
use Rattle.layout.specs.Faithful.{Exact}
use Rattle.layout.specs.Fault.{Faulted, Refuses}
use Rattle.layout.specs.Spot.{Here, Points, Spotted}
use Rattle.layout.proofs.laws.Decided.{refuses_exactly}
use Rattle.layout.proofs.laws.Meets.{reads_exactly}
use Rattle.layout.proofs.laws.Spotted.{points_exactly}
use Rattle.wire.specs.Codecs.{text, value}
use Rattle.wire.specs.Faults.{TextFault, ValueFault, RowFault, PropertyFault}
use Rattle.wire.specs.Layout.{Text, shape, Value, Row, Property}
use Rattle.wire.specs.Places.{value_at, shape_in, row_at}
use Rattle.wire.specs.Property.{property_at, property_in}
use Rattle.wire.specs.Spots.{ValueSpot, RowSpot, PropertySpot}
use Rattle.wire.proofs.Described as Described
use Rattle.wire.proofs.Refusals.{row_faults, property_faults}
use Rattle.wire.proofs.Refusals as refusals
use Rattle.wire.proofs.Spotted.{row_spotted, property_spotted}
use Rattle.wire.proofs.Spotted as spotted
use Rattle.wire.proofs.laws.Formats.{value_format, row_format, property_format}
use Rattle.wire.proofs.laws.Located.{values, rows}

-- of a string and of a value, to make layouts of them

pub text_faults : Faulted TextFault text
text_faults = refusals.text_faults

pub text_spotted : Spotted (Here Text) text
text_spotted = spotted.text_spotted

pub value_faults : (t : ℕ) → Faulted (ValueFault t) (value t)
value_faults = refusals.value_faults

pub value_spotted : (t : ℕ) → Spotted (ValueSpot t) (value t)
value_spotted = spotted.value_spotted

module _ (s : List ℕ) (h : Bytes s) where
  pub value_exact : (t : ℕ) → Exact (Value t) (shape_in (shape t) s) s (value_at t s 0)
  value_exact t = reads_exactly (value_format t) (values t) s h (value_at t s 0) refl

  pub property_exact : (there : Bool) → Exact (Property there) (property_in s) s (property_at there s 0)
  property_exact there = reads_exactly (property_format there) (Described.properties there) s h (property_at there s 0) refl

  module _ (at : ℕ) where
    pub value_spot : (t : ℕ) → Points (ValueFault t) (ValueSpot t) (drop at s) at (value_at t s at)
    value_spot t = points_exactly (value_format t) (value_faults t) (value_spotted t) (values t) s h at (value_at t s at) refl

    pub value_blame : (t : ℕ) → Refuses (Value t) (ValueFault t) (drop at s) (value_at t s at)
    value_blame t = refuses_exactly (value_format t) (value_faults t) (values t) s h at (value_at t s at) refl

    pub row_spot_at : (ts : List ℕ) → Points (RowFault ts) (RowSpot ts) (drop at s) at (row_at ts s at)
    row_spot_at ts = points_exactly (row_format ts) (row_faults ts) (row_spotted ts) (rows ts) s h at (row_at ts s at) refl

    pub row_blame : (ts : List ℕ) → Refuses (Row ts) (RowFault ts) (drop at s) (row_at ts s at)
    row_blame ts = refuses_exactly (row_format ts) (row_faults ts) (rows ts) s h at (row_at ts s at) refl

    pub property_spot : (there : Bool) → Points (PropertyFault there) (PropertySpot there) (drop at s) at (property_at there s at)
    property_spot there = points_exactly (property_format there) (property_faults there) (property_spotted there) (Described.properties there) s h at (property_at there s at) refl

    pub property_blame : (there : Bool) → Refuses (Property there) (PropertyFault there) (drop at s) (property_at there s at)
    property_blame there = refuses_exactly (property_format there) (property_faults there) (Described.properties there) s h at (property_at there s at) refl
