-- The device record as the code answers it: its fields, in the layout's order, are the row of places that is read.
-- Assumes nothing.
use Rattle.std.specs.Prelude.{Ok, Err}
use Rattle.wire.specs.Read.{Read}
use Rattle.std.specs.Prelude.{List, [], ◌∷◌}
use Rattle.layout.specs.Answer.{Answer, got, refused}
use Rattle.wire.specs.Places.{Located, items, units, whole}
use Rattle.wire.specs.declared.device.DeviceInfo.{DeviceInfo}

-- by the crate's names
abbrev pub device_fields : DeviceInfo → List Located
device_fields x =
    whole x.version
    ∷ whole x.vendor_ex_id
    ∷ whole x.vendor_ex_version
    ∷ units x.vendor_extension_desc
    ∷ whole x.functional_mode
    ∷ items x.operations_supported
    ∷ items x.events_supported
    ∷ items x.device_properties_supported
    ∷ items x.capture_formats
    ∷ items x.image_formats
    ∷ units x.manufacturer
    ∷ units x.model
    ∷ units x.device_version
    ∷ units x.serial_number
    ∷ []

abbrev pub says_device : Read DeviceInfo → Answer (List Located)
says_device (Ok (x, c)) = got (device_fields x) c.at
says_device (Err t) = refused t
