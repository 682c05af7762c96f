-- An entry written from its fields: the value by its bytes, the serial by its units.
-- Assumes nothing.
use Rattle.std.specs.Prelude.{Bool, false, List, [], ◌++◌, ℕ, ◌+◌, leb, length}
use Rattle.layout.specs.Answer.{pick, bare}
use Rattle.layout.specs.Bytes.{bytes}
use Rattle.layout.specs.Refusals.{RECORD}
use Rattle.layout.specs.Written.{Said, says, no}
use Rattle.wire.specs.Given.{text_said}
use Rattle.wire.specs.Newer.{fills}
use Rattle.settings.specs.Layout.{ANY, OWN}
use Rattle.settings.specs.Entry.{word_tidy}

-- for one serial, or for any
abbrev pub kind_of : Bool → ℕ
kind_of own = pick own OWN ANY

-- the serial as a string, with a string's 2 and 10; an entry for any serial has no byte for it, and its units are not looked at
unfoldable pub serial_said : Bool → List ℕ → Said
serial_said own us = pick own (text_said us) (says [])

-- the bytes are exactly one tidy value of the type
unfoldable pub is_value : ℕ → List ℕ → Bool
is_value type w = pick (fills type w) (word_tidy type w) false

-- its length, which counts its own four bytes; kind, vendor and property; the serial's bytes; type and value
unfoldable pub entry_bytes : ℕ → ℕ → ℕ → List ℕ → ℕ → List ℕ → List ℕ
entry_bytes kind vendor property sw type w = bytes 4 (14 + length sw + length w) ++ (bytes 2 kind ++ bytes 4 vendor ++ bytes 2 property) ++ sw ++ bytes 2 type ++ w

-- 13: no tidy value of the type, or one that is so long that four bytes have no room for the entry's length
unfoldable pub spelled_said : Bool → ℕ → ℕ → ℕ → List ℕ → Said → Said
spelled_said own vendor property type w (no t) = no t
spelled_said own vendor property type w (says sw) =
    pick (is_value type w) (pick (leb (14 + length sw + length w) 4294967295) (says (entry_bytes (kind_of own) vendor property sw type w)) (no (bare RECORD))) (no (bare RECORD))

-- 2, 10, 13, then 9
abbrev pub entry_said : ℕ → ℕ → ℕ → List ℕ → Bool → List ℕ → Said
entry_said vendor property type w own us = spelled_said own vendor property type w (serial_said own us)
