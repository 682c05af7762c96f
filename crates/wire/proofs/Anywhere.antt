-- Demand 3 of the readers at any place, of the functions' own answers: `r` is any answer that the reader's promise allows there.
-- Assumes nothing.
use Rattle.wire.specs.Read.{Read, says_read}
use Rattle.wire.specs.declared.storage.StorageInfo.{StorageInfo}
use Rattle.wire.specs.declared.object.ObjectInfo.{ObjectInfo}
use Rattle.wire.specs.declared.property.PropInfo.{PropInfo}
use Rattle.wire.specs.declared.device.DeviceInfo.{DeviceInfo}
use Rattle.wire.specs.declared.container.Container as container
use Rattle.wire.specs.declared.value.Value as value
use mathlib.Core.Bool.{Bool}
use mathlib.Core.Path.{◌≡◌}
use mathlib.Core.List.{List}
use Prim.Native.Nat.{ℕ}
use Rattle.layout.specs.Bytes.{Bytes}
use Rattle.wire.specs.Anywhere.{ExactAt}
use Rattle.wire.specs.Codecs.{box_in, box_parts}
use Rattle.wire.specs.Container.{container_at}
use Rattle.wire.specs.Device.{says_device}
use Rattle.wire.specs.Layout.{shape, Value, Row, device, object, storage, Property, Container}
use Rattle.wire.specs.Object.{says_object}
use Rattle.wire.specs.Places.{value_at, shape_in, shape_parts, row_at, row_in, row_parts}
use Rattle.wire.specs.Property.{property_at, says_property, property_in}
use Rattle.wire.specs.Says.{says_value}
use Rattle.wire.specs.Storage.{says_storage}
use Rattle.wire.proofs.Described.{properties, property_parts}
use Rattle.wire.proofs.laws.Boxes.{container_format, boxes}
use Rattle.wire.proofs.laws.Exactly.{exact_at}
use Rattle.wire.proofs.laws.Formats.{value_format, row_format, property_format}
use Rattle.wire.proofs.laws.Located.{values, rows}

module _ (s : List ℕ) (h : Bytes s) (at : ℕ) where
  pub value_exact_at : (t : ℕ) (r : Read value.Value) → says_value r ≡ value_at t s at → ExactAt (Value t) (shape_in (shape t) s) (shape_parts (shape t)) s at (says_value r)
  value_exact_at t r promised = exact_at (value_format t) (values t) s h at (says_value r) promised

  pub device_exact_at : (r : Read DeviceInfo) → says_device r ≡ row_at device s at → ExactAt (Row device) (row_in device s) (row_parts device) s at (says_device r)
  device_exact_at r promised = exact_at (row_format device) (rows device) s h at (says_device r) promised

  pub object_exact_at : (r : Read ObjectInfo) → says_object r ≡ row_at object s at → ExactAt (Row object) (row_in object s) (row_parts object) s at (says_object r)
  object_exact_at r promised = exact_at (row_format object) (rows object) s h at (says_object r) promised

  pub storage_exact_at : (r : Read StorageInfo) → says_storage r ≡ row_at storage s at → ExactAt (Row storage) (row_in storage s) (row_parts storage) s at (says_storage r)
  storage_exact_at r promised = exact_at (row_format storage) (rows storage) s h at (says_storage r) promised

  pub property_exact_at : (there : Bool) (r : Read PropInfo) → says_property r ≡ property_at there s at → ExactAt (Property there) (property_in s) property_parts s at (says_property r)
  property_exact_at there r promised = exact_at (property_format there) (properties there) s h at (says_property r) promised

  pub container_exact_at : (r : Read container.Container) → says_read r ≡ container_at s at → ExactAt Container (box_in s) box_parts s at (says_read r)
  container_exact_at r promised = exact_at container_format boxes s h at (says_read r) promised
