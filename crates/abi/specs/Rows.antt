-- What each number of each answer is. A part is its start and its count of units or items; the bytes of a value, their start and length.
-- Assumes nothing.
use Rattle.std.specs.Prelude.{ℕ, ◌+◌, ◌*◌, ◌/◌, ◌%◌, ◌^◌, Bool, true, false, List, [], ◌∷◌, ◌++◌}
use Rattle.std.proofs.Math.Option.{Option, some, none}
use Rattle.recording.specs.Content.{Content, Record}
use Rattle.recording.specs.Content as content
use Rattle.session.specs.Payloads.{storage_payload}
use Rattle.session.specs.Search.{Reply, payload, response, reply_to}
use Rattle.session.specs.declared.search.Response.{Response}
use Rattle.layout.specs.Answer.{Answer, got, pick}
use Rattle.layout.specs.Written.{Said, says}
use Rattle.wire.specs.Codecs.{unsigned}
use Rattle.wire.specs.Layout.{int, nat, pair, storage}
use Rattle.wire.specs.List.{Stepped, next, end}
use Rattle.wire.specs.Places.{Located, number_is, items, units, empty, filled_at, row_at}
use Rattle.wire.specs.declared.Part.{Part}
use Rattle.wire.specs.declared.container.Container.{Container}
use Rattle.wire.specs.declared.later.Chosen.{Chosen}
use Rattle.wire.specs.Description.{Form, PropInfo}
use Rattle.wire.specs.Description as form
use Rattle.wire.specs.declared.property.PropLayout.{PropLayout}
use Rattle.wire.specs.declared.property.PropLayout.TheVariants as layouts
use Rattle.wire.specs.declared.property.Slot.{Slot}

-- ── the datasets, field by field ──

-- a field of a record; it is a number or a part, and nothing else
abbrev pub field_row : Located → List ℕ
field_row (number_is (nat n)) = n ∷ []
field_row (number_is (int z)) = []
field_row (number_is (pair h l)) = []
field_row (items p) = p.start ∷ p.count ∷ []
field_row (units p) = p.start ∷ p.count ∷ []
field_row empty = []

abbrev pub fields_row : List Located → List ℕ
fields_row [] = []
fields_row (l ∷ ls) = field_row l ++ fields_row ls

-- where a record ends: anywhere, or where it must fill its payload at the end of the bytes, else 3
abbrev pub end_of : Bool → List ℕ → ℕ → Answer (Unit {0})
end_of filling s at = pick filling (filled_at s at) (got tt at)

-- a storage record that begins the bytes, or must fill them
abbrev pub storage_answer : Bool → List ℕ → Answer (List Located)
storage_answer filling s = pick filling (storage_payload s) (row_at storage s 0)

-- 0: no form; 1: minimum, maximum and step; 2: the bytes of all values of a list, and how many values they are
abbrev pub form_row : Form → List ℕ
form_row form.absent = 0 ∷ 0 ∷ 0 ∷ 0 ∷ 0 ∷ 0 ∷ 0 ∷ []
form_row (form.range a b c) = 1 ∷ a.start ∷ a.len ∷ b.start ∷ b.len ∷ c.start ∷ c.len ∷ []
form_row (form.list p n) = 2 ∷ p.start ∷ p.len ∷ n ∷ 0 ∷ 0 ∷ 0 ∷ []

-- the layout that the caller names: the book's, or the crate's
abbrev pub layout_of : Bool → PropLayout
layout_of true = layouts.Book
layout_of false = layouts.Crate

-- the `IsEnable` byte; 256, which no byte is, where it is absent
abbrev pub enable_number : Option ℕ → ℕ
enable_number (some n) = n
enable_number none = 256

abbrev pub prop_row : PropInfo → List ℕ
prop_row x =
    x.property_code
    ∷ x.data_type
    ∷ x.get_set
    ∷ enable_number x.is_enable
    ∷ x.factory_default.start ∷ x.factory_default.len
    ∷ x.current.start ∷ x.current.len
    ∷ form_row x.form

-- ── values, strings and arrays at a place ──

-- where units or items begin, and how many they are
abbrev pub part_row : Part → List ℕ
part_row p = p.start ∷ p.count ∷ []

abbrev pub number_row : ℕ → List ℕ
number_row n = n ∷ []

-- what it is, and two numbers: 1 a signed integer, 2 an unsigned one, by its word; 3 one of 128 bits, the low half first; 4 an array, 5 a string,
-- by its part; 0 UNDEF
abbrev pub value_row : Located → List ℕ
value_row (number_is (int z)) = 1 ∷ unsigned (2 ^ 64) z ∷ 0 ∷ []
value_row (number_is (nat n)) = 2 ∷ n ∷ 0 ∷ []
value_row (number_is (pair h l)) = 3 ∷ l ∷ h ∷ []
value_row (items p) = 4 ∷ p.start ∷ p.count ∷ []
value_row (units p) = 5 ∷ p.start ∷ p.count ∷ []
value_row empty = 0 ∷ 0 ∷ 0 ∷ []

-- a step of a list: the place after the value, how many are left, and the value; no number where it has ended
abbrev pub step_said : Stepped → Said
step_said (next v at left) = says (at ∷ left ∷ value_row v)
step_said end = says []

-- ── the panel ──

abbrev pub slot_row : Located × Slot → List ℕ
slot_row x = x.1.start ∷ x.1.len ∷ []

-- 1: of the payload; 0: of the description
abbrev pub side : Bool → ℕ
side true = 1
side false = 0

abbrev pub newer_row : Chosen → List ℕ
newer_row c = side c.of_payload ∷ c.start ∷ c.len ∷ []

-- ── answers and records ──

-- the Response's code, and the payload: none where the Response is not Ok
abbrev pub reply_row : Reply → List ℕ
reply_row (payload p) = 0x2001 ∷ p.start ∷ p.count ∷ []
reply_row (response code) = code ∷ 0 ∷ 0 ∷ []

-- then the Response's own payload: its start, and how many parameters of four bytes stand there whole
abbrev pub response_row : Response → List ℕ
response_row x = reply_row (reply_to x.code x.last) ++ (x.payload.start ∷ x.payload.count / 4 ∷ [])

-- a container's kind, code, number and payload
abbrev pub container_row : Container → List ℕ
container_row x = x.kind ∷ x.code ∷ x.number ∷ x.payload.start ∷ x.payload.count ∷ []

-- the container's, or 0 for a note
abbrev pub content_row : Content → List ℕ
content_row content.note = 0 ∷ 0 ∷ 0 ∷ 0 ∷ 0 ∷ []
content_row (content.holds x) = container_row x

abbrev pub record_row : Record → List ℕ
record_row x = x.kind ∷ x.body.start ∷ x.body.count ∷ content_row x.content

-- ── names ──

-- start and length in the name bytes, 16 bits each; a code without a name is 0
abbrev pub place_word : Option (ℕ × ℕ) → ℕ
place_word none = 0
place_word (some p) = p.0 % 65536 * 65536 + p.1 % 65536
