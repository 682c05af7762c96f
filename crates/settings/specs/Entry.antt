-- One entry as it is read, test by test in the paper's order, and what its places mean.
-- Assumes nothing.
use Rattle.std.specs.Prelude.{Ok, Err}
use Rattle.wire.specs.Read.{Read}
use Rattle.std.specs.Prelude.{Bool, true, false, List, ℕ, ◌+◌, ◌-◌, ◌≤◌, leb, eqb, length, take, get_or}
use Rattle.layout.specs.Answer.{Answer, got, refused, Reader, pick, after, bare, span_at}
use Rattle.layout.specs.Refusals.{TRAIL, RECORD}
use Rattle.wire.specs.Layout.{STR}
use Rattle.wire.specs.Places.{num_at, text_at, value_at, filled_at, items_in}
use Rattle.wire.specs.Property.{between, bytes_of, slot_in}
use Rattle.wire.specs.declared.Part.{Part}
use Rattle.wire.specs.declared.property.Slot.{Slot}
use Rattle.settings.specs.Refusals.{EDITION}
use Rattle.settings.specs.Layout.{OWN, knows, Key, Setting}
use Rattle.settings.specs.declared.entry.Edition.{Edition}
use Rattle.settings.specs.declared.entry.Entry.{Entry}

-- ── the fields, in bytes that end with the entry ──

-- an entry for any serial has none, and no byte for it
unfoldable pub serial_at : ℕ → Reader Part
serial_at kind s at = pick (eqb kind OWN) (text_at s at) (got (record { start = at; count = 0 }) at)

-- type and value, after the key of the entry that starts at `start`
unfoldable pub typed_at : ℕ → ℕ → ℕ → ℕ → Part → Reader Entry
typed_at start kind vendor property serial s at =
    after (num_at 2 s at) λ type a.
    after (value_at type s a) λ _ n.
    got (record { start = start; kind = kind; vendor = vendor; property = property; serial = serial; code = type; value = between a n }) n

unfoldable pub fields_at : ℕ → ℕ → Reader Entry
fields_at start kind s at =
    after (num_at 4 s at) λ vendor a.
    after (num_at 2 s a) λ property b.
    after (serial_at kind s b) λ serial c.
    typed_at start kind vendor property serial s c

-- ── the tests in their order ──

-- 13: a length below 6; 1: the rest is not whole; then its fields; 3: bytes are left in it
unfoldable pub rest_at : ℕ → ℕ → ℕ → Reader Entry
rest_at start len kind s at =
    pick (leb 6 len)
    (after (span_at at (len - 6) s at) λ _ end.
    after (fields_at start kind (take end s) at) λ x n.
    pick (eqb n end) (got x n) (refused (bare TRAIL)))
    (refused (bare RECORD))

-- 1 for six bytes, 17, then these
unfoldable pub whole_at : Edition → Reader Entry
whole_at e s at =
    after (num_at 4 s at) λ len a.
    after (num_at 2 s a) λ kind b.
    pick (knows e kind) (rest_at at len kind s b) (refused (bare EDITION))

-- ── tidy ──

-- of a string's bytes: its count is not 1, and its last unit is 0
unfoldable pub tidy_text : List ℕ → Bool
tidy_text w = pick (leb (length w) 1) true (pick (eqb (get_or w 0 0) 1) false (pick (eqb (get_or w (length w - 2) 0) 0) (eqb (get_or w (length w - 1) 0) 0) false))

-- where the serial of an entry stands: up to its type
abbrev pub serial_slot : Entry → Slot
serial_slot x = between (x.start + 12) (x.value.start - 2)

-- and its key: from behind its length on
abbrev pub key_slot : Entry → Slot
key_slot x = between (x.start + 4) (x.value.start - 2)

-- nothing but a string has a second spelling
unfoldable pub serial_tidy : List ℕ → Entry → Bool
serial_tidy s x = pick (eqb x.kind OWN) (tidy_text (bytes_of s (serial_slot x))) true

abbrev pub word_tidy : ℕ → List ℕ → Bool
word_tidy type w = pick (eqb type STR) (tidy_text w) true

unfoldable pub value_tidy : List ℕ → Entry → Bool
value_tidy s x = pick (eqb x.code STR) (tidy_text (bytes_of s x.value)) true

unfoldable pub is_tidy : List ℕ → Entry → Bool
is_tidy s x = pick (serial_tidy s x) (value_tidy s x) false

-- 13: untidy
unfoldable pub tidy_at : List ℕ → Entry → ℕ → Answer Entry
tidy_at s x n = pick (is_tidy s x) (got x n) (refused (bare RECORD))

-- ── an entry of a row, and one alone in its bytes, which is refused with 3 where bytes follow ──

unfoldable pub entry_at : Edition → Reader Entry
entry_at e s at = after (whole_at e s at) λ x n. tidy_at s x n

unfoldable pub alone_in : Edition → List ℕ → Answer Entry
alone_in e s = after (whole_at e s 0) λ x n. after (filled_at s n) λ _ _. tidy_at s x n

-- ── what its places mean ──

abbrev pub key_in : List ℕ → Entry → Key
key_in s x = record { kind = x.kind; vendor = x.vendor; property = x.property; serial = items_in 2 s x.serial }

abbrev pub setting_in : List ℕ → Entry → Setting
setting_in s x = record { key = key_in s x; type = x.code; value = slot_in x.code s x.value }

-- ── this paper's values for each case ──

-- where its parts stand, that the code may take them
pub record Within (s : List ℕ) (x : Entry) : Type 0 where
  pub serial : x.start + 14 ≤ x.value.start
  pub value : x.value.start + x.value.len ≤ length s
