-- What is written is read back: what a reader must answer of bytes s in which a container was written.
-- Assumes nothing.
use Rattle.std.specs.Prelude.{◌≡◌, List, ℕ, take, drop}
use Rattle.layout.specs.Answer.{Answer, got}
use Rattle.wire.specs.declared.Part.{Part}
use Rattle.wire.specs.declared.container.Container.{Container}

-- the bytes that a part names
abbrev pub part_of : List ℕ → Part → List ℕ
part_of s p = take p.count (drop p.start s)

-- the container is accepted with that kind, code and number, with a payload whose bytes are those, and with n as the place after it
pub record Returns (kind code number : ℕ) (payload s : List ℕ) (n : ℕ) (x : Answer Container) : Type 0 where
  pub part : Part
  pub answer : x ≡ got (record { kind = kind; code = code; number = number; payload = part }) n
  pub holds : part_of s part ≡ payload
