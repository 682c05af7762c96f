-- What is answered of an entry's bytes, said with no reader: each refusal by its condition on the bytes, in the paper's order, and what is accepted. `d` is the bytes from the entry's place on.
-- Assumes nothing.
use Rattle.std.specs.Prelude.{◌≡◌, Bool, true, false, List, ◌⊎◌, ℕ, ◌+◌, ◌-◌, ◌<◌, eqb, length, take, drop}
use Rattle.layout.specs.Answer.{Told, Answer, got, refused, end_at, bare}
use Rattle.layout.specs.Bytes.{bytes}
use Rattle.layout.specs.Faithful.{Prefix}
use Rattle.layout.specs.Fault.{Begins}
use Rattle.layout.specs.Format.{Stands}
use Rattle.layout.specs.Grammar.{loose, tidy}
use Rattle.layout.specs.Refusals.{TRAIL, RECORD}
use Rattle.layout.specs.Spot.{Points}
use Rattle.wire.specs.Layout.{Value}
use Rattle.wire.specs.Tests.{◌gives◌else◌}
use Rattle.wire.specs.Refused.{announced, kind_in}
use Rattle.settings.specs.Refusals.{EDITION}
use Rattle.settings.specs.Layout.{OWN, knows, Setting, Serial, Content}
use Rattle.settings.specs.Fields.{ContentFault, ContentSpot}
use Rattle.settings.specs.declared.entry.Edition.{Edition}
use Rattle.settings.specs.declared.entry.Entry.{Entry}

-- ── the front: 1 for six bytes, 17, 13, 1 for the rest ──

abbrev pub FrontTests : {A : Type 0} → Edition → ℕ → List ℕ → (Answer A → Type 0) → Answer A → Type 0
FrontTests e at d rest =
    length d < 4 gives refused (end_at at) else
    length d < 6 gives refused (end_at (at + 4)) else
    knows e (kind_in d) ≡ false gives refused (bare EDITION) else
    announced d < 6 gives refused (bare RECORD) else
    length d < announced d gives refused (end_at (at + 6)) else
    rest

-- ── where the parts of an accepted entry stand ──

-- a string's units stand behind its count byte; an entry for any serial has no such byte
abbrev pub count_byte : Bool → ℕ
count_byte true = 1
count_byte false = 0

-- the answer's numbers are the reading's; its serial begins after the twelve bytes of length, kind, vendor and property, and its value after `before` bytes, in so many
abbrev pub entry_from : ℕ → Setting → ℕ → ℕ → Entry
entry_from at r before size = record {
  start = at;
  kind = r.key.kind;
  vendor = r.key.vendor;
  property = r.key.property;
  serial = record { start = at + 12 + count_byte (eqb r.key.kind OWN); count = length r.key.serial };
  code = r.type;
  value = record { start = at + before; len = size };
}

-- each part begins where the one before it ends: the serial, two bytes of type, and the value, which ends with the entry
pub record EntryInOrder (at : ℕ) (d : List ℕ) (r : Setting) (x : Entry) : Type 0 where
  pub serial_end : ℕ
  pub serial : List ℕ
  pub value : List ℕ
  pub serial_there : Stands d 12 serial_end serial
  pub serial_is : Serial (eqb r.key.kind OWN) tidy serial r.key.serial
  pub type_there : Stands d serial_end (serial_end + 2) (bytes 2 r.type)
  pub value_there : Stands d (serial_end + 2) (announced d) value
  pub value_is : Value r.type tidy value r.value
  pub places : x ≡ entry_from at r (serial_end + 2) (length value)

-- ── then the content, from the kind on, up to the announced length ──

abbrev pub content_in : List ℕ → List ℕ
content_in d = take (announced d - 4) (drop 4 d)

-- `ends` is what is asked of the entry's end
pub data ContentSays (ends : Type 0) (at : ℕ) (d : List ℕ) : Answer Entry → Type 0 where
  -- no word begins it: the refusal is told of the first field that it is not read as, with 2 where it begins with a text that is refused, else with 1
  in_a_field : {t : Told} → (Begins Content (content_in d) → ⊥) → Points {L = Entry} ContentFault ContentSpot (content_in d) (at + 4) (refused t) → ContentSays ends at d (refused t)
  -- 3: a word begins it, and bytes are left in the entry, or it does not end as asked
  bytes_left : (r : Setting) (n : ℕ) → Prefix Content (content_in d) r n → (n < length (content_in d)) ⊎ (ends → ⊥) → ContentSays ends at d (refused (bare TRAIL))
  -- 13: it is a word, and not the tidy one
  untidy : (r : Setting) → ends → Content loose (content_in d) r → (Content tidy (content_in d) r → ⊥) → ContentSays ends at d (refused (bare RECORD))
  accepted : (x : Entry) (r : Setting) → ends → Content tidy (content_in d) r → EntryInOrder at d r x → ContentSays ends at d (got x (at + announced d))

-- an entry of a row: whatever follows it
abbrev pub EntrySays : Edition → ℕ → List ℕ → Answer Entry → Type 0
EntrySays e at d = FrontTests e at d (ContentSays (Unit {0}) at d)

-- an entry alone in its bytes: nothing follows it
abbrev pub AloneSays : Edition → List ℕ → Answer Entry → Type 0
AloneSays e d = FrontTests e 0 d (ContentSays (length d ≡ announced d) 0 d)
