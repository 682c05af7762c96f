-- The numbers of the device, object and storage records one by one, by the names of the struct's own fields, in the order in which ptp.h names them.
-- Assumes nothing.
use Rattle.std.specs.Prelude.{ℕ, List, [], ◌∷◌}
use Rattle.wire.specs.declared.device.DeviceInfo.{DeviceInfo}
use Rattle.wire.specs.declared.object.ObjectInfo.{ObjectInfo}
use Rattle.wire.specs.declared.storage.StorageInfo.{StorageInfo}

abbrev pub device_numbers : DeviceInfo → List ℕ
device_numbers x =
    x.version
    ∷ x.vendor_ex_id
    ∷ x.vendor_ex_version
    ∷ x.vendor_extension_desc.start ∷ x.vendor_extension_desc.count
    ∷ x.functional_mode
    ∷ x.operations_supported.start ∷ x.operations_supported.count
    ∷ x.events_supported.start ∷ x.events_supported.count
    ∷ x.device_properties_supported.start ∷ x.device_properties_supported.count
    ∷ x.capture_formats.start ∷ x.capture_formats.count
    ∷ x.image_formats.start ∷ x.image_formats.count
    ∷ x.manufacturer.start ∷ x.manufacturer.count
    ∷ x.model.start ∷ x.model.count
    ∷ x.device_version.start ∷ x.device_version.count
    ∷ x.serial_number.start ∷ x.serial_number.count
    ∷ []

abbrev pub object_numbers : ObjectInfo → List ℕ
object_numbers x =
    x.storage_id
    ∷ x.object_format
    ∷ x.protection_status
    ∷ x.object_compressed_size
    ∷ x.thumb_format
    ∷ x.thumb_compressed_size
    ∷ x.thumb_pix_width
    ∷ x.thumb_pix_height
    ∷ x.image_pix_width
    ∷ x.image_pix_height
    ∷ x.image_bit_depth
    ∷ x.parent_object
    ∷ x.association_type
    ∷ x.association_desc
    ∷ x.sequence_number
    ∷ x.filename.start ∷ x.filename.count
    ∷ x.capture_date.start ∷ x.capture_date.count
    ∷ x.modification_date.start ∷ x.modification_date.count
    ∷ x.keywords.start ∷ x.keywords.count
    ∷ []

abbrev pub storage_numbers : StorageInfo → List ℕ
storage_numbers x =
    x.storage_type
    ∷ x.filesystem_type
    ∷ x.access_capability
    ∷ x.max_capacity
    ∷ x.free_space_in_bytes
    ∷ x.free_space_in_images
    ∷ x.storage_description.start ∷ x.storage_description.count
    ∷ x.volume_label.start ∷ x.volume_label.count
    ∷ []
