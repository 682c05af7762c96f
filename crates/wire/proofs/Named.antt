-- The fields of the answered records go by their names, of the functions' own answers at any place.
-- Assumes nothing.
use Rattle.std.specs.Prelude.{Ok}
use mathlib.Core.Path.{◌≡◌, refl}
use mathlib.Core.List.{List, [], ◌∷◌}
use Prim.Native.Nat.{ℕ, zero, suc, ◌-◌}
use Prim.Native.String.{String}
use lib.ListN.{drop}
use Rattle.layout.specs.Bytes.{Bytes}
use Rattle.layout.specs.Faithful.{Prefix}
use Rattle.layout.proofs.laws.Numbers.{zero_one}
use Rattle.wire.specs.Device.{device_fields, says_device}
use Rattle.wire.specs.Layout.{Field, Val, Row, device, object, storage}
use Rattle.wire.specs.Named.{Named, here, behind, DeviceNamed, ObjectNamed, StorageNamed}
use Rattle.wire.specs.Object.{object_fields, says_object}
use Rattle.wire.specs.Places.{row_at, row_in}
use Rattle.wire.specs.Storage.{storage_fields, says_storage}
use Rattle.wire.specs.declared.Cursor.{Cursor}
use Rattle.wire.specs.declared.device.DeviceInfo.{DeviceInfo}
use Rattle.wire.specs.declared.object.ObjectInfo.{ObjectInfo}
use Rattle.wire.specs.declared.storage.StorageInfo.{StorageInfo}
use Rattle.wire.proofs.Anywhere.{device_exact_at, object_exact_at, storage_exact_at}

-- of no values none has a name
none : {name : String} {v : Val} (fs : List Field) (vs : List Val) → Named name v fs vs → vs ≡ [] → ⊥
none fs vs here e = zero_one (cc)
none fs vs (behind h) e = zero_one (cc)

-- behind n fields
past : {name : String} {v : Val} (n : ℕ) (fs : List Field) (vs : List Val) → Named name v (drop n fs) (drop n vs) → Named name v fs vs
past zero fs vs h = h
past (suc n) [] vs h = elim h [ ]
past (suc n) (f ∷ fs) [] h = absurd (none (drop n fs) [] h refl)
past (suc n) (f ∷ fs) (v ∷ vs) h = behind (past n fs vs h)

device_named : (s : List ℕ) (x : DeviceInfo) → DeviceNamed s x (row_in device s (device_fields x))
device_named s x = record {
  version = here;
  vendor_ex_id = past 1 _ _ here;
  vendor_ex_version = past 2 _ _ here;
  vendor_extension_desc = past 3 _ _ here;
  functional_mode = past 4 _ _ here;
  operations_supported = past 5 _ _ here;
  events_supported = past 6 _ _ here;
  device_properties_supported = past 7 _ _ here;
  capture_formats = past 8 _ _ here;
  image_formats = past 9 _ _ here;
  manufacturer = past 10 _ _ here;
  model = past 11 _ _ here;
  device_version = past 12 _ _ here;
  serial_number = past 13 _ _ here;
}

object_named : (s : List ℕ) (x : ObjectInfo) → ObjectNamed s x (row_in object s (object_fields x))
object_named s x = record {
  storage_id = here;
  object_format = past 1 _ _ here;
  protection_status = past 2 _ _ here;
  object_compressed_size = past 3 _ _ here;
  thumb_format = past 4 _ _ here;
  thumb_compressed_size = past 5 _ _ here;
  thumb_pix_width = past 6 _ _ here;
  thumb_pix_height = past 7 _ _ here;
  image_pix_width = past 8 _ _ here;
  image_pix_height = past 9 _ _ here;
  image_bit_depth = past 10 _ _ here;
  parent_object = past 11 _ _ here;
  association_type = past 12 _ _ here;
  association_desc = past 13 _ _ here;
  sequence_number = past 14 _ _ here;
  filename = past 15 _ _ here;
  capture_date = past 16 _ _ here;
  modification_date = past 17 _ _ here;
  keywords = past 18 _ _ here;
}

storage_named : (s : List ℕ) (x : StorageInfo) → StorageNamed s x (row_in storage s (storage_fields x))
storage_named s x = record {
  storage_type = here;
  filesystem_type = past 1 _ _ here;
  access_capability = past 2 _ _ here;
  max_capacity = past 3 _ _ here;
  free_space_in_bytes = past 4 _ _ here;
  free_space_in_images = past 5 _ _ here;
  storage_description = past 6 _ _ here;
  volume_label = past 7 _ _ here;
}

-- where a record is accepted, the bytes up to the place after it are its word, and each field of the struct has the value of the field of its name
module _ (s : List ℕ) (h : Bytes s) (at : ℕ) (c : Cursor) where
  pub device-fields : (x : DeviceInfo) → says_device (Ok (x, c)) ≡ row_at device s at → (vs : List Val) × Prefix (Row device) (drop at s) vs (c.at - at) × DeviceNamed s x vs
  device-fields x promised = (row_in device s (device_fields x), ((device_exact_at s h at (Ok (x, c)) promised).accepts (device_fields x) c.at refl).1, device_named s x)

  pub object-fields : (x : ObjectInfo) → says_object (Ok (x, c)) ≡ row_at object s at → (vs : List Val) × Prefix (Row object) (drop at s) vs (c.at - at) × ObjectNamed s x vs
  object-fields x promised = (row_in object s (object_fields x), ((object_exact_at s h at (Ok (x, c)) promised).accepts (object_fields x) c.at refl).1, object_named s x)

  pub storage-fields : (x : StorageInfo) → says_storage (Ok (x, c)) ≡ row_at storage s at → (vs : List Val) × Prefix (Row storage) (drop at s) vs (c.at - at) × StorageNamed s x vs
  storage-fields x promised = (row_in storage s (storage_fields x), ((storage_exact_at s h at (Ok (x, c)) promised).accepts (storage_fields x) c.at refl).1, storage_named s x)
