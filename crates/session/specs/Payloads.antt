-- The payloads that answer camera calls. Those of device and object info are wire's rows of places: bytes may follow them.
-- Assumes nothing.
use Rattle.std.specs.Prelude.{ℕ, List}
use Rattle.layout.specs.Answer.{Answer, got, Reader, after}
use Rattle.wire.specs.Layout.{storage}
use Rattle.wire.specs.Places.{num_at, array_at, filled_at, Located, row_at}
use Rattle.wire.specs.declared.Part.{Part}

-- what must fill its payload: 3 where bytes follow
unfoldable pub filling : {A : Type 0} → Reader A → List ℕ → Answer A
filling read s = after (read s 0) λ x next. after (filled_at s next) λ _ end. got x end

-- handle arrays and storage IDs: arrays of numbers of four bytes
abbrev pub handles_payload : List ℕ → Answer Part
handles_payload = filling (array_at 4)

abbrev pub storage_payload : List ℕ → Answer (List Located)
storage_payload = filling (row_at storage)

-- object counts
abbrev pub count_payload : List ℕ → Answer ℕ
count_payload = filling (num_at 4)
