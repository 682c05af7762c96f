-- The demand at each layout of the byte layer: accepted exactly when a prefix is in the grammar, one prefix and one reading, and the one tidy word.
-- Assumes nothing.
use mathlib.Core.Bool.{Bool}
use Prim.Native.Nat.{ℕ}
use Rattle.layout.specs.Faithful.{Faithful}
use Rattle.layout.proofs.laws.Meets.{faithful}
use Rattle.wire.specs.Layout.{Text, Value, Row, device, object, storage, Property, Container}
use Rattle.wire.specs.Codecs.{text, value, row, property, container}
use Rattle.wire.proofs.laws.Boxes.{container_format}
use Rattle.wire.proofs.laws.Formats.{text_format, value_format, row_format, property_format}

pub texts : Faithful Text text
texts = faithful text_format

pub values : (t : ℕ) → Faithful (Value t) (value t)
values t = faithful (value_format t)

pub devices : Faithful (Row device) (row device)
devices = faithful (row_format device)

pub objects : Faithful (Row object) (row object)
objects = faithful (row_format object)

pub storages : Faithful (Row storage) (row storage)
storages = faithful (row_format storage)

-- once over whether the `IsEnable` byte is there
pub properties : (there : Bool) → Faithful (Property there) (property there)
properties there = faithful (property_format there)

-- every word is the tidy one (`containers_single`, laws/Boxes)
pub containers : Faithful Container container
containers = faithful container_format
