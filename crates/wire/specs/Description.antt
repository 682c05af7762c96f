-- A property's description to this paper, by its places: its numbers, where its values stand, and its form.
-- Assumes nothing.
use Rattle.std.proofs.Math.Option.{Option}
use Rattle.std.specs.Prelude.{ℕ}
use Rattle.wire.specs.declared.property.Slot.{Slot}

-- minimum, maximum and step; or the bytes of a list's values, and how many they are
pub data Form : Type 0 where
  absent : Form
  range : Slot → Slot → Slot → Form
  list : Slot → ℕ → Form

pub record PropInfo : Type 0 where
  pub property_code : ℕ
  pub data_type : ℕ
  pub get_set : ℕ
  pub is_enable : Option ℕ
  pub factory_default : Slot
  pub current : Slot
  pub form : Form
