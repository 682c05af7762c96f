-- Where a record is accepted as a struct, the exported function has its numbers to give, by the struct's own names, behind the place after the record.
-- Assumes nothing.
use Rattle.std.specs.Prelude.{Ok}
use Rattle.std.proofs.Common.{◌≡◌, ℕ, List, ◌∷◌}
use Rattle.layout.specs.Written.{says}
use Rattle.wire.specs.Device.{says_device}
use Rattle.wire.specs.Layout.{device, object, storage}
use Rattle.wire.specs.Object.{says_object}
use Rattle.wire.specs.Places.{row_at}
use Rattle.wire.specs.Storage.{says_storage}
use Rattle.wire.specs.declared.Cursor.{Cursor}
use Rattle.wire.specs.declared.device.DeviceInfo.{DeviceInfo}
use Rattle.wire.specs.declared.object.ObjectInfo.{ObjectInfo}
use Rattle.wire.specs.declared.storage.StorageInfo.{StorageInfo}
use Rattle.abi.specs.Answered.{given}
use Rattle.abi.specs.Numbers.{device_numbers, object_numbers, storage_numbers}
use Rattle.abi.specs.Rows.{fields_row}

module _ (s : List ℕ) (c : Cursor) where
  pub device-numbers : (x : DeviceInfo) → says_device (Ok (x, c)) ≡ row_at device s 0 → given fields_row (row_at device s 0) ≡ says (c.at ∷ device_numbers x)
  device-numbers x promised = rw (← promised)

  pub object-numbers : (x : ObjectInfo) → says_object (Ok (x, c)) ≡ row_at object s 0 → given fields_row (row_at object s 0) ≡ says (c.at ∷ object_numbers x)
  object-numbers x promised = rw (← promised)

  pub storage-numbers : (x : StorageInfo) → says_storage (Ok (x, c)) ≡ row_at storage s 0 → given fields_row (row_at storage s 0) ≡ says (c.at ∷ storage_numbers x)
  storage-numbers x promised = rw (← promised)
