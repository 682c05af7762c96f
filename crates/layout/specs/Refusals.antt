-- The refusals by document 01's numbers and names. Each is given exactly when its condition holds and none earlier in the order does.
-- Assumes nothing.
use Rattle.std.specs.Prelude.{ℕ}

-- the input stops before a field is whole
abbrev pub END : ℕ
END = 1

-- a string's units (reading: all but the last) hold an unpaired surrogate
abbrev pub TEXT : ℕ
TEXT = 2

-- bytes follow an answer that must fill its payload
abbrev pub TRAIL : ℕ
TRAIL = 3

-- container kind is not 1 to 4
abbrev pub KIND : ℕ
KIND = 4

-- container length is below 12
abbrev pub LENGTH : ℕ
LENGTH = 5

-- a phase's bytes stop before its announced length
abbrev pub SIZE : ℕ
SIZE = 6

-- a phase carries another transaction number
abbrev pub TID : ℕ
TID = 7

-- phases stop between containers, no Response seen
abbrev pub NOPHASE : ℕ
NOPHASE = 8

-- the output is shorter than the exact need
abbrev pub ROOM : ℕ
ROOM = 9

-- over 254 units, over 5 parameters, over 4,294,967,295 items, payload over 4,294,967,283 bytes, or array bytes that are no whole number of items
abbrev pub COUNT : ℕ
COUNT = 10

-- the object table breaks its rule
abbrev pub TABLE : ℕ
TABLE = 11

-- an index or array type code that does not exist
abbrev pub PLACE : ℕ
PLACE = 12

-- recording length below 6 or kind not 1 to 3
abbrev pub RECORD : ℕ
RECORD = 13

-- a record's body over 65,000 bytes
abbrev pub LONG : ℕ
LONG = 14
