-- Which field of an answered record is which of PIMA's: the struct's own name on the left, PIMA's on the right. `vs` are the values of all the layout's fields.
-- Assumes nothing.
use Rattle.std.specs.Prelude.{List, ◌∷◌, map, ℕ}
use Prim.Native.String.{String}
use Rattle.wire.specs.Layout.{Field, device_row, object_row, storage_row, nat, Val, num, nums, str}
use Rattle.wire.specs.Places.{items_in}
use Rattle.wire.specs.declared.Part.{Part}
use Rattle.wire.specs.declared.device.DeviceInfo.{DeviceInfo}
use Rattle.wire.specs.declared.object.ObjectInfo.{ObjectInfo}
use Rattle.wire.specs.declared.storage.StorageInfo.{StorageInfo}

-- v is the value of the field that has the name
pub data Named (name : String) (v : Val) : List Field → List Val → Type 0 where
  here : {t : ℕ} {fs : List Field} {vs : List Val} → Named name v ((name, t) ∷ fs) (v ∷ vs)
  behind : {f : Field} {w : Val} {fs : List Field} {vs : List Val} → Named name v fs vs → Named name v (f ∷ fs) (w ∷ vs)

-- the values of the struct's fields: of a number; of a string and of an array of UINT16, by the part of the bytes s where the units or items stand
abbrev pub of_number : ℕ → Val
of_number n = num (nat n)

abbrev pub of_text : List ℕ → Part → Val
of_text s p = str (items_in 2 s p)

abbrev pub of_array : List ℕ → Part → Val
of_array s p = nums (map nat (items_in 2 s p))

-- each field of the struct has the value of the field that PIMA names so
pub record DeviceNamed (s : List ℕ) (x : DeviceInfo) (vs : List Val) : Type 0 where
  pub version : Named "StandardVersion" (of_number x.version) device_row vs
  pub vendor_ex_id : Named "VendorExtensionID" (of_number x.vendor_ex_id) device_row vs
  pub vendor_ex_version : Named "VendorExtensionVersion" (of_number x.vendor_ex_version) device_row vs
  pub vendor_extension_desc : Named "VendorExtensionDesc" (of_text s x.vendor_extension_desc) device_row vs
  pub functional_mode : Named "FunctionalMode" (of_number x.functional_mode) device_row vs
  pub operations_supported : Named "OperationsSupported" (of_array s x.operations_supported) device_row vs
  pub events_supported : Named "EventsSupported" (of_array s x.events_supported) device_row vs
  pub device_properties_supported : Named "DevicePropertiesSupported" (of_array s x.device_properties_supported) device_row vs
  pub capture_formats : Named "CaptureFormats" (of_array s x.capture_formats) device_row vs
  pub image_formats : Named "ImageFormats" (of_array s x.image_formats) device_row vs
  pub manufacturer : Named "Manufacturer" (of_text s x.manufacturer) device_row vs
  pub model : Named "Model" (of_text s x.model) device_row vs
  pub device_version : Named "DeviceVersion" (of_text s x.device_version) device_row vs
  pub serial_number : Named "SerialNumber" (of_text s x.serial_number) device_row vs

pub record ObjectNamed (s : List ℕ) (x : ObjectInfo) (vs : List Val) : Type 0 where
  pub storage_id : Named "StorageID" (of_number x.storage_id) object_row vs
  pub object_format : Named "ObjectFormat" (of_number x.object_format) object_row vs
  pub protection_status : Named "ProtectionStatus" (of_number x.protection_status) object_row vs
  pub object_compressed_size : Named "ObjectCompressedSize" (of_number x.object_compressed_size) object_row vs
  pub thumb_format : Named "ThumbFormat" (of_number x.thumb_format) object_row vs
  pub thumb_compressed_size : Named "ThumbCompressedSize" (of_number x.thumb_compressed_size) object_row vs
  pub thumb_pix_width : Named "ThumbPixWidth" (of_number x.thumb_pix_width) object_row vs
  pub thumb_pix_height : Named "ThumbPixHeight" (of_number x.thumb_pix_height) object_row vs
  pub image_pix_width : Named "ImagePixWidth" (of_number x.image_pix_width) object_row vs
  pub image_pix_height : Named "ImagePixHeight" (of_number x.image_pix_height) object_row vs
  pub image_bit_depth : Named "ImageBitDepth" (of_number x.image_bit_depth) object_row vs
  pub parent_object : Named "ParentObject" (of_number x.parent_object) object_row vs
  pub association_type : Named "AssociationType" (of_number x.association_type) object_row vs
  pub association_desc : Named "AssociationDesc" (of_number x.association_desc) object_row vs
  pub sequence_number : Named "SequenceNumber" (of_number x.sequence_number) object_row vs
  pub filename : Named "Filename" (of_text s x.filename) object_row vs
  pub capture_date : Named "CaptureDate" (of_text s x.capture_date) object_row vs
  pub modification_date : Named "ModificationDate" (of_text s x.modification_date) object_row vs
  pub keywords : Named "Keywords" (of_text s x.keywords) object_row vs

pub record StorageNamed (s : List ℕ) (x : StorageInfo) (vs : List Val) : Type 0 where
  pub storage_type : Named "StorageType" (of_number x.storage_type) storage_row vs
  pub filesystem_type : Named "FilesystemType" (of_number x.filesystem_type) storage_row vs
  pub access_capability : Named "AccessCapability" (of_number x.access_capability) storage_row vs
  pub max_capacity : Named "MaxCapacity" (of_number x.max_capacity) storage_row vs
  pub free_space_in_bytes : Named "FreeSpaceInBytes" (of_number x.free_space_in_bytes) storage_row vs
  pub free_space_in_images : Named "FreeSpaceInImages" (of_number x.free_space_in_images) storage_row vs
  pub storage_description : Named "StorageDescription" (of_text s x.storage_description) storage_row vs
  pub volume_label : Named "VolumeLabel" (of_text s x.volume_label) storage_row vs
