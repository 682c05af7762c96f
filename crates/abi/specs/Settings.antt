-- What each number of an answer about settings is, and which edition the caller names.
-- Assumes nothing.
use Rattle.std.specs.Prelude.{ℕ, Bool, true, false, List, [], ◌∷◌, length}
use Rattle.layout.specs.Answer.{Answer, got, refused}
use Rattle.layout.specs.Written.{Said, says, no}
use Rattle.settings.specs.declared.entry.Edition.{Edition}
use Rattle.settings.specs.declared.entry.Edition.TheVariants as edition
use Rattle.settings.specs.declared.entry.Entry.{Entry}
use Rattle.std.specs.Prelude.{Ok, Err}
use Rattle.std.specs.declared.option.Option.TheVariants.{Some, None}
use Rattle.settings.specs.Row.{Found}

abbrev pub edition_of : Bool → Edition
edition_of true = edition.Two
edition_of false = edition.One

-- how many entries
abbrev pub counted : Answer (List Entry) → Answer (Unit {0})
counted (got xs n) = got tt (length xs)
counted (refused t) = refused t

-- a serial is its start and its count of units, and a value the start and length of its bytes
abbrev pub entry_row : Entry → List ℕ
entry_row x = x.kind ∷ x.vendor ∷ x.property ∷ x.serial.start ∷ x.serial.count ∷ x.code ∷ x.value.start ∷ x.value.len ∷ []

-- of what is kept its kind, its type, its value's start and length; no number where nothing is
abbrev pub found_said : Found → Said
found_said (Ok (Some x)) = says (x.kind ∷ x.code ∷ x.value.start ∷ x.value.len ∷ [])
found_said (Ok None) = says []
found_said (Err t) = no t
