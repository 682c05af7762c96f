-- The names of the response and command codes, as the crate ptp 0.5.0 spells them, and where they stand in the name bytes.
-- Assumes nothing.
use Rattle.std.specs.Prelude.{List, [], ◌∷◌, ◌++◌, ℕ, ◌+◌, ◌-◌, leb, ltb, length, take, get_or}
use Rattle.std.proofs.Math.Option.{Option, none, some}
use Prim.Native.Char.{code}
use Prim.Native.String.{String, [] as blank, ◌∷◌ as ◌before◌}
use Rattle.layout.specs.Answer.{pick}

-- ── the names ──

-- from code 0x2000 on
unfoldable pub responses : List String
responses =
    "Undefined" ∷
    "Ok" ∷
    "GeneralError" ∷
    "SessionNotOpen" ∷
    "InvalidTransactionId" ∷
    "OperationNotSupported" ∷
    "ParameterNotSupported" ∷
    "IncompleteTransfer" ∷
    "InvalidStorageId" ∷
    "InvalidObjectHandle" ∷
    "DevicePropNotSupported" ∷
    "InvalidObjectFormatCode" ∷
    "StoreFull" ∷
    "ObjectWriteProtected" ∷
    "StoreReadOnly" ∷
    "AccessDenied" ∷
    "NoThumbnailPresent" ∷
    "SelfTestFailed" ∷
    "PartialDeletion" ∷
    "StoreNotAvailable" ∷
    "SpecificationByFormatUnsupported" ∷
    "NoValidObjectInfo" ∷
    "InvalidCodeFormat" ∷
    "UnknownVendorCode" ∷
    "CaptureAlreadyTerminated" ∷
    "DeviceBusy" ∷
    "InvalidParentObject" ∷
    "InvalidDevicePropFormat" ∷
    "InvalidDevicePropValue" ∷
    "InvalidParameter" ∷
    "SessionAlreadyOpen" ∷
    "TransactionCancelled" ∷
    "SpecificationOfDestinationUnsupported" ∷
    []

-- from code 0x1000 on
unfoldable pub commands : List String
commands =
    "Undefined" ∷
    "GetDeviceInfo" ∷
    "OpenSession" ∷
    "CloseSession" ∷
    "GetStorageIDs" ∷
    "GetStorageInfo" ∷
    "GetNumObjects" ∷
    "GetObjectHandles" ∷
    "GetObjectInfo" ∷
    "GetObject" ∷
    "GetThumb" ∷
    "DeleteObject" ∷
    "SendObjectInfo" ∷
    "SendObject" ∷
    "InitiateCapture" ∷
    "FormatStore" ∷
    "ResetDevice" ∷
    "SelfTest" ∷
    "SetObjectProtection" ∷
    "PowerDown" ∷
    "GetDevicePropDesc" ∷
    "GetDevicePropValue" ∷
    "SetDevicePropValue" ∷
    "ResetDevicePropValue" ∷
    "TerminateOpenCapture" ∷
    "MoveObject" ∷
    "CopyObject" ∷
    "GetPartialObject" ∷
    "InitiateOpenCapture" ∷
    []

-- ── their bytes ──

-- a text's characters by their numbers
abbrev pub spelled : String → List ℕ
spelled blank = []
spelled (c before s) = code c ∷ spelled s

-- end to end
abbrev pub joined : List String → List ℕ
joined [] = []
joined (n ∷ ns) = spelled n ++ joined ns

-- all name bytes: the responses', then the commands'
unfoldable pub name_bytes : List ℕ
name_bytes = joined responses ++ joined commands

-- ── the name of a code: any that no table has is an ordinary answer, none ──

abbrev pub given : {A B : Type 0} → (A → B) → Option A → Option B
given f none = none
given f (some a) = some (f a)

-- the entry of a code, in a table of n entries that begins with the code `base`
unfoldable pub entry_of : ℕ → ℕ → ℕ → Option ℕ
entry_of base n code = pick (leb base code) (pick (ltb (code - base) n) (some (code - base)) none) none

abbrev pub name_at : List String → ℕ → List ℕ
name_at names k = spelled (get_or names k "")

unfoldable pub response_name : ℕ → Option (List ℕ)
response_name code = given (name_at responses) (entry_of 0x2000 (length responses) code)

unfoldable pub command_name : ℕ → Option (List ℕ)
command_name code = given (name_at commands) (entry_of 0x1000 (length commands) code)

-- ── where it stands in the name bytes: start and length ──

-- of an entry of a table whose bytes begin at `first`: after the names before it
abbrev pub place_at : ℕ → List String → ℕ → ℕ × ℕ
place_at first names k = (first + length (joined (take k names)), length (name_at names k))

unfoldable pub response_place : ℕ → Option (ℕ × ℕ)
response_place code = given (place_at 0 responses) (entry_of 0x2000 (length responses) code)

unfoldable pub command_place : ℕ → Option (ℕ × ℕ)
command_place code = given (place_at (length (joined responses)) commands) (entry_of 0x1000 (length commands) code)
