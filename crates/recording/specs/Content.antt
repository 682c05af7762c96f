-- What a record is to this paper: its kind, where its body stands, and what the body holds.
-- Assumes nothing.
use Rattle.std.specs.Prelude.{ℕ}
use Rattle.wire.specs.declared.Part.{Part}
use Rattle.wire.specs.declared.container.Container.{Container}

-- any bytes, or one container that fills the body
pub data Content : Type 0 where
  note : Content
  holds : Container → Content

pub record Record : Type 0 where
  pub kind : ℕ
  pub body : Part
  pub content : Content
