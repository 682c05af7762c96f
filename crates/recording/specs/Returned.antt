-- What is written is read back: what `read_record` must answer of bytes s at whose front a record was written.
-- Assumes nothing.
use Rattle.std.specs.Prelude.{◌≡◌, List, ℕ, drop}
use Rattle.layout.specs.Answer.{Answer, got}
use Rattle.wire.specs.Refused.{kind_in, code_in, number_in}
use Rattle.wire.specs.Returned.{part_of}
use Rattle.wire.specs.declared.container.Container.{Container}
use Rattle.recording.specs.Content.{Content, Record}
use Rattle.recording.specs.Content as content

-- what a body holds: a container that has the body's kind, code, number and payload, and no note
pub data Held (body s : List ℕ) : Content → Type 0 where
  a_container : {x : Container} → x.kind ≡ kind_in body → x.code ≡ code_in body → x.number ≡ number_in body → part_of s x.payload ≡ drop 12 body → Held body s (content.holds x)

-- the record is accepted with that kind, with a body whose bytes are those, and with n as the place after it
pub record ReturnsRecord (kind : ℕ) (body s : List ℕ) (n : ℕ) (x : Answer Record) : Type 0 where
  pub found : Record
  pub answer : x ≡ got found n
  pub same_kind : found.kind ≡ kind
  pub holds : part_of s found.body ≡ body
  pub held : Held body s found.content

-- a record whose body is a container that was written: its container is accepted with that kind, code and number, and with a payload whose bytes are those
pub record ReturnsContainer (way kind code number : ℕ) (payload s : List ℕ) (n : ℕ) (x : Answer Record) : Type 0 where
  pub found : Record
  pub container : Container
  pub answer : x ≡ got found n
  pub same_way : found.kind ≡ way
  pub content : found.content ≡ content.holds container
  pub same_kind : container.kind ≡ kind
  pub same_code : container.code ≡ code
  pub same_number : container.number ≡ number
  pub holds : part_of s container.payload ≡ payload
