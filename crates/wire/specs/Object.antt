-- The object record as the code answers it: its fields, in the layout's order, are the row of places that is read.
-- Assumes nothing.
use Rattle.std.specs.Prelude.{Ok, Err}
use Rattle.wire.specs.Read.{Read}
use Rattle.std.specs.Prelude.{List, [], ◌∷◌}
use Rattle.layout.specs.Answer.{Answer, got, refused}
use Rattle.wire.specs.Places.{Located, units, whole}
use Rattle.wire.specs.declared.object.ObjectInfo.{ObjectInfo}

-- by the crate's names
abbrev pub object_fields : ObjectInfo → List Located
object_fields x =
    whole x.storage_id
    ∷ whole x.object_format
    ∷ whole x.protection_status
    ∷ whole x.object_compressed_size
    ∷ whole x.thumb_format
    ∷ whole x.thumb_compressed_size
    ∷ whole x.thumb_pix_width
    ∷ whole x.thumb_pix_height
    ∷ whole x.image_pix_width
    ∷ whole x.image_pix_height
    ∷ whole x.image_bit_depth
    ∷ whole x.parent_object
    ∷ whole x.association_type
    ∷ whole x.association_desc
    ∷ whole x.sequence_number
    ∷ units x.filename
    ∷ units x.capture_date
    ∷ units x.modification_date
    ∷ units x.keywords
    ∷ []

abbrev pub says_object : Read ObjectInfo → Answer (List Located)
says_object (Ok (x, c)) = got (object_fields x) c.at
says_object (Err t) = refused t
