-- What `set_value` answers, by the paper's words and the grammar: no reader, no test and no writer stands here.
-- Assumes nothing.
use Rattle.std.specs.Prelude.{◌≡◌, ℕ, ◌+◌, ◌<◌, ◌≤◌, Bool, List, ◌++◌, length, drop, ◌≢◌}
use Rattle.layout.specs.Answer.{Told, Answer, got, refused, end_at, bad_text, bare}
use Rattle.layout.specs.Bytes.{bytes}
use Rattle.layout.specs.Faithful.{Prefix}
use Rattle.layout.specs.Fault.{Fault, Begins, Spoilt}
use Rattle.layout.specs.Grammar.{loose, tidy, Grammar}
use Rattle.layout.specs.Refusals.{TRAIL, COUNT, ROOM}
use Rattle.layout.specs.Spot.{Spot}
use Rattle.session.specs.Transaction.{Turn, turn}
use Rattle.session.specs.declared.transaction.Session.{Session}
use Rattle.wire.specs.Container.{container_word}
use Rattle.wire.specs.Faults.{ValueFault, PropertyFault}
use Rattle.wire.specs.Layout.{Val, Value, range, Reading, Property}
use Rattle.wire.specs.Spots.{ValueSpot, PropertySpot}
use Rattle.panel.specs.Allowed.{Allowed}
use Rattle.panel.specs.Refusals.{TYPE, VALUE}

-- ── bytes that no word begins: told of the first field that they are not read as; 2 where they begin with a fault, else 1 ──

pub data TellsOf (B : Fault) (s : List ℕ) (q : ℕ) : Told → Type 0 where
  by_end : (Spoilt B s → ⊥) → TellsOf B s q (end_at q)
  by_text : Spoilt B s → TellsOf B s q (bad_text q)

pub record Unread {R : Type 0} (G : Grammar R) (B : Fault) (P : Spot) (s : List ℕ) (u : Told) : Type 0 where
  pub none : Begins G s → ⊥
  pub place : ℕ
  pub spot : P s place
  pub tells : TellsOf B s place u

-- ── 15 ──

-- the codes that have a type: every other code is UNDEF
pub data Named : ℕ → Type 0 where
  a_number : {t : ℕ} → 0x0001 ≤ t → t ≤ 0x000A → Named t
  an_array : {t : ℕ} → 0x4001 ≤ t → t ≤ 0x400A → Named t
  a_string : {t : ℕ} → t ≡ 0xFFFF → Named t

-- the integers of 8 to 64 bits
pub data Whole : ℕ → Type 0 where
  int8 : Whole 0x0001
  uint8 : Whole 0x0002
  int16 : Whole 0x0003
  uint16 : Whole 0x0004
  int32 : Whole 0x0005
  uint32 : Whole 0x0006
  int64 : Whole 0x0007
  uint64 : Whole 0x0008

-- another type than the description's, UNDEF, or a range of anything but those integers
pub data Unfit (r : Reading) (type : ℕ) : Type 0 where
  another : (type ≢ r.type) → Unfit r type
  undefined : (Named type → ⊥) → Unfit r type
  no_range : (a b c : Val) → r.form ≡ range a b c → (Whole type → ⊥) → Unfit r type

-- ── the answer ──

-- the command of [property code], and behind it the Data container
abbrev pub two_containers : ℕ → ℕ → List ℕ → List ℕ
two_containers property number w = container_word 1 0x1016 number (bytes 4 property) ++ container_word 2 0x1016 number w

-- the description begins with a word of its layout, read as r, which the chosen type fits
pub record Described (there : Bool) (d : List ℕ) (type : ℕ) (r : Reading) : Type 0 where
  pub size : ℕ
  pub front : Prefix (Property there) d r size
  pub fits : Unfit r type → ⊥

-- besides, the chosen bytes are a value of that type, which the form allows; w is its tidy word
pub record Chooses (there : Bool) (d : List ℕ) (type : ℕ) (chosen : List ℕ) (r : Reading) (v : Val) (w : List ℕ) : Type 0 where
  pub described : Described there d type r
  pub is-value : Value type loose chosen v
  pub allowed : Allowed r.form v
  pub spelt : Value type tidy w v

-- the answer, and what is left of the output
pub data PanelSays (x : Session) (there : Bool) (d : List ℕ) (type : ℕ) (chosen old : List ℕ) : Answer Turn → List ℕ → Type 0 where
  -- the description's own
  of_description : {u : Told} → Unread (Property there) (PropertyFault there) (PropertySpot there) d u → PanelSays x there d type chosen old (refused u) old
  -- 15
  other_type : {r : Reading} {n : ℕ} → Prefix (Property there) d r n → Unfit r type → PanelSays x there d type chosen old (refused (bare TYPE)) old
  -- the chosen value's 1 and 2, then 3
  of_value : {r : Reading} {u : Told} → Described there d type r → Unread (Value type) (ValueFault type) (ValueSpot type) chosen u → PanelSays x there d type chosen old (refused u) old
  bytes_left : {r : Reading} {v : Val} {n : ℕ} → Described there d type r → Prefix (Value type) chosen v n → n < length chosen → PanelSays x there d type chosen old (refused (bare TRAIL)) old
  -- 16
  not_allowed : {r : Reading} {v : Val} → Described there d type r → Value type loose chosen v → (Allowed r.form v → ⊥) → PanelSays x there d type chosen old (refused (bare VALUE)) old
  -- 10, 9
  too_long : {r : Reading} {v : Val} {w : List ℕ} → Chooses there d type chosen r v w → 4294967283 < length w → PanelSays x there d type chosen old (refused (bare COUNT)) old
  no_room : {r : Reading} {v : Val} {w : List ℕ} → Chooses there d type chosen r v w → length w ≤ 4294967283 → length old < 28 + length w → PanelSays x there d type chosen old (refused (bare ROOM)) old
  -- sent
  goes_out : {r : Reading} {v : Val} {w : List ℕ} → Chooses there d type chosen r v w → length w ≤ 4294967283 → 28 + length w ≤ length old →
      PanelSays x there d type chosen old (got (turn x 0x1016) (28 + length w)) (two_containers r.code (turn x 0x1016).number w ++ drop (28 + length w) old)
