-- Document 01's numbered examples, in its order: what is given, and what is to come out, by the definitions that the contracts cite.
-- Assumes nothing.
use Rattle.std.specs.Prelude.{Bool, true, false, List, [], ◌∷◌, ℕ, negsuc, replicate}
use Rattle.std.proofs.Math.Option.{some}
use Rattle.layout.specs.Answer.{Answer, got, refused, bare, means, end_at, bad_text}
use Rattle.layout.specs.Refusals.{PLACE}
use Rattle.layout.specs.Written.{Said, says, no, word_at}
use Rattle.wire.specs.Layout.{UINT16, AUINT16, STR, shape, Val, num, nums, str, nil, int, nat, pair, Reading, range, list}
use Rattle.wire.specs.Codecs.{value}
use Rattle.wire.specs.Places.{value_at, shape_in}
use Rattle.wire.specs.Property.{property_at, property_in, has_enable}
use Rattle.wire.specs.declared.property.PropLayout.{PropLayout}
use Rattle.wire.specs.declared.property.PropLayout.TheVariants as layouts
use Rattle.wire.specs.Container.{header_at, command_said}
use Rattle.wire.specs.Utf8.{utf8_at}
use Rattle.wire.specs.declared.container.Header.{Header}
use Rattle.wire.specs.declared.container.Command.{Command}
use Rattle.session.specs.Calls.{open_session}
use Rattle.session.specs.Transaction.{fresh_session}
use Rattle.tree.specs.Table.{Table, table, rows, flags}
use Rattle.tree.specs.Path.{path_said}
use Rattle.tree.proofs.laws.Tested.{walk_test}

-- what is given
pub data Given : Type 0 where
  -- a value of a type; a property's description by a layout; a string in UTF-8; a container's header
  a_value : ℕ → List ℕ → Given
  a_property : PropLayout → List ℕ → Given
  a_text a_header : List ℕ → Given
  -- a command with a transaction number; a tree with an order of its places, and one of them
  a_command : Command → ℕ → Given
  a_tree : Table → List ℕ → ℕ → Given

-- what comes out
pub data Seen : Type 0 where
  -- its reading, and its tidy bytes
  reads : Answer Val → Answer (List ℕ) → Seen
  encodes : Answer (List ℕ) → Seen
  describes : Answer Reading → Seen
  heads : Answer Header → Seen
  spells : Said → Seen
  -- whether that order is the walk, and that place's path
  walks : Bool → Said → Seen

abbrev pub shown : Given → Seen
shown (a_value t s) = reads (means (shape_in (shape t) s) (value_at t s 0)) (word_at (value t) s 0)
shown (a_text s) = encodes (utf8_at s 0)
shown (a_property l s) = describes (means (property_in s) (property_at (has_enable l) s 0))
shown (a_header s) = heads (header_at s 0)
shown (a_command c n) = spells (command_said c n)
shown (a_tree t order place) = walks (walk_test (rows t) (flags t) order) (path_said t place)

pub record Example : Type 0 where
  pub given : Given
  pub seen : Seen

abbrev pub example : Given → Seen → Example
example g s = record { given = g; seen = s }

-- a value that is tidy as it stands
abbrev pub whole : ℕ → List ℕ → Val → ℕ → Example
whole t s v n = example (a_value t s) (reads (got v n) (got s n))

abbrev pub zeros : ℕ → List ℕ
zeros n = replicate n 0

-- ── the bytes of the longer ones ──

abbrev pub n3 : List ℕ
n3 = 1 ∷ 0 ∷ 0 ∷ 0 ∷ 0 ∷ 0 ∷ 0 ∷ 0 ∷ 2 ∷ zeros 7

abbrev pub n8 : List ℕ
n8 = 3 ∷ 0x3D ∷ 0xD8 ∷ 0 ∷ 0xDE ∷ 0 ∷ 0 ∷ []

-- range 0 to 100 by 1, current 50
abbrev pub n11 : List ℕ
n11 = 1 ∷ 0x50 ∷ 2 ∷ 0 ∷ 0 ∷ 1 ∷ 0x64 ∷ 0x32 ∷ 1 ∷ 0 ∷ 0x64 ∷ 1 ∷ []

abbrev pub n11_reading : Reading
n11_reading = record {
  code = 0x5001;
  type = 2;
  getset = 0;
  enable = some 1;
  default = num (nat 100);
  current = num (nat 50);
  form = range (num (nat 0)) (num (nat 100)) (num (nat 1));
}

-- a list of the empty string and A
abbrev pub n12 : List ℕ
n12 = 5 ∷ 0xD0 ∷ 0xFF ∷ 0xFF ∷ 1 ∷ 1 ∷ 0 ∷ 0 ∷ 2 ∷ 2 ∷ 0 ∷ 0 ∷ 2 ∷ 0x41 ∷ 0 ∷ 0 ∷ 0 ∷ []

abbrev pub n12_reading : Reading
n12_reading = record {
  code = 0xD005;
  type = STR;
  getset = 1;
  enable = some 1;
  default = str [];
  current = str [];
  form = list (str [] ∷ str (0x41 ∷ []) ∷ []);
}

-- 65,535 values of no type
abbrev pub n13 : List ℕ
n13 = 1 ∷ 0x50 ∷ 0 ∷ 0 ∷ 0 ∷ 0 ∷ 2 ∷ 0xFF ∷ 0xFF ∷ []

abbrev pub n13_reading : Reading
n13_reading = record { code = 0x5001; type = 0; getset = 0; enable = some 0; default = nil; current = nil; form = list (replicate 65535 nil) }

-- four objects, all live, in lists of 1,024 places: names empty, A, B, C
abbrev pub objects : Table
objects =
    table (10 ∷ 11 ∷ 12 ∷ 13 ∷ zeros 1020) (0 ∷ 0 ∷ 1 ∷ 0 ∷ zeros 1020) (1 ∷ 6 ∷ 11 ∷ 16 ∷ zeros 1020) (1 ∷ 1 ∷ 1 ∷ 1 ∷ zeros 1020) 4
    (0 ∷ 2 ∷ 0x41 ∷ 0 ∷ 0 ∷ 0 ∷ 2 ∷ 0x42 ∷ 0 ∷ 0 ∷ 0 ∷ 2 ∷ 0x43 ∷ 0 ∷ 0 ∷ 0 ∷ [])

-- the same tree with a root that has a name, R, and its last object not live
abbrev pub named_objects : Table
named_objects =
    table (10 ∷ 11 ∷ 12 ∷ 13 ∷ zeros 1020) (0 ∷ 0 ∷ 1 ∷ 0 ∷ zeros 1020) (5 ∷ 10 ∷ 15 ∷ 20 ∷ zeros 1020) (1 ∷ 1 ∷ 1 ∷ 0 ∷ zeros 1020) 4
    (2 ∷ 0x52 ∷ 0 ∷ 0 ∷ 0 ∷ 2 ∷ 0x41 ∷ 0 ∷ 0 ∷ 0 ∷ 2 ∷ 0x42 ∷ 0 ∷ 0 ∷ 0 ∷ 2 ∷ 0x43 ∷ 0 ∷ 0 ∷ 0 ∷ [])

-- ── N1 to N16, and N16's like ──

abbrev pub examples : List Example
examples =
    -- N1 UINT16, N2 INT16, N3 UINT128
    whole UINT16 (0x34 ∷ 0x12 ∷ []) (num (nat 4660)) 2
    ∷ whole 3 (0xFE ∷ 0xFF ∷ []) (num (int (negsuc 1))) 2
    ∷ whole 10 n3 (num (pair 2 1)) 16
    -- N4 the empty string, N5 the same with a count of 1, whose tidy bytes are N4's; N6 A; N7 an unpaired surrogate, 2; N8 a pair, and its UTF-8
    ∷ whole STR (0 ∷ []) (str []) 1
    ∷ example (a_value STR (1 ∷ 0x41 ∷ 0 ∷ [])) (reads (got (str []) 3) (got (0 ∷ []) 3))
    ∷ whole STR (2 ∷ 0x41 ∷ 0 ∷ 0 ∷ 0 ∷ []) (str (0x41 ∷ [])) 5
    ∷ example (a_value STR (2 ∷ 0 ∷ 0xD8 ∷ 0 ∷ 0 ∷ [])) (reads (refused (bad_text 0)) (refused (bad_text 0)))
    ∷ whole STR n8 (str (0xD83D ∷ 0xDE00 ∷ [])) 7
    ∷ example (a_text n8) (encodes (got (0xF0 ∷ 0x9F ∷ 0x98 ∷ 0x80 ∷ []) 7))
    -- N9 AUINT16, N10 AUINT8 with a count past all bytes, 1
    ∷ whole AUINT16 (2 ∷ 0 ∷ 0 ∷ 0 ∷ 5 ∷ 0 ∷ 6 ∷ 0 ∷ []) (nums (nat 5 ∷ nat 6 ∷ [])) 8
    ∷ example (a_value 0x4002 (0xFF ∷ 0xFF ∷ 0xFF ∷ 0xFF ∷ [])) (reads (refused (end_at 0)) (refused (end_at 0)))
    -- N11 to N13 properties
    ∷ example (a_property layouts.Crate n11) (describes (got n11_reading 12))
    ∷ example (a_property layouts.Crate n12) (describes (got n12_reading 17))
    ∷ example (a_property layouts.Crate n13) (describes (got n13_reading 9))
    -- N14 Response Ok numbered 7, N15 OpenSession from a fresh session, numbered 0
    ∷ example (a_header (0x0C ∷ 0 ∷ 0 ∷ 0 ∷ 3 ∷ 0 ∷ 1 ∷ 0x20 ∷ 7 ∷ 0 ∷ 0 ∷ 0 ∷ [])) (heads (got (record { kind = 3; code = 0x2001; number = 7; payload_len = 0 }) 12))
    ∷ example (a_command open_session fresh_session.number) (spells (says (0x18 ∷ 0 ∷ 0 ∷ 0 ∷ 1 ∷ 0 ∷ 2 ∷ 0x10 ∷ 0 ∷ 0 ∷ 0 ∷ 0 ∷ 3 ∷ zeros 11)))
    -- N16 the tree: order 0, 1, 3, 2; the path of 2 is A/B
    ∷ example (a_tree objects (0 ∷ 1 ∷ 3 ∷ 2 ∷ []) 2) (walks true (says (0x41 ∷ 0x2F ∷ 0x42 ∷ [])))
    -- with the named root: its path is its name, a slash follows it, and what is not live is in no order and has no path, 12
    ∷ example (a_tree named_objects (0 ∷ 1 ∷ 2 ∷ []) 0) (walks true (says (0x52 ∷ [])))
    ∷ example (a_tree named_objects (0 ∷ 1 ∷ 2 ∷ []) 2) (walks true (says (0x52 ∷ 0x2F ∷ 0x41 ∷ 0x2F ∷ 0x42 ∷ [])))
    ∷ example (a_tree named_objects (0 ∷ 1 ∷ 3 ∷ 2 ∷ []) 3) (walks false (no (bare PLACE)))
    ∷ []
