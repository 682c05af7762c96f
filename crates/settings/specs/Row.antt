-- A row of entries as it is read, entry by entry from its first byte to its last; and what it holds for a question.
-- Assumes nothing.
use Rattle.std.specs.declared.option.Option as declared
use Rattle.std.specs.declared.option.Option.TheVariants.{Some, None}
use Rattle.std.specs.Prelude.{Ok, Err}
use Rattle.std.specs.declared.result.Result.{Result}
use Rattle.layout.specs.declared.Refusal.{Refusal}
use Rattle.std.specs.Prelude.{◌≡◌, Bool, List, [], ◌∷◌, ◌++◌, map, ℕ, zero, suc, leb, ltb, length}
use Rattle.std.proofs.Math.Option.{Option, some, none}
use Rattle.layout.specs.Answer.{Answer, got, refused, Reader, pick, after, bare}
use Rattle.layout.specs.Refusals.{RECORD}
use Rattle.settings.specs.Refusals.{FULL}
use Rattle.settings.specs.Layout.{ANY, OWN, Key, Setting, same_key, holds, limit}
use Rattle.settings.specs.Entry.{entry_at, key_in, setting_in}
use Rattle.settings.specs.declared.entry.Edition.{Edition}
use Rattle.settings.specs.declared.entry.Edition.TheVariants as edition
use Rattle.settings.specs.declared.entry.Entry.{Entry}

-- ── the entries from end to end, or the first refusal ──

-- the readings of entries that stand in the bytes
abbrev pub settings_in : List ℕ → List Entry → List Setting
settings_in s xs = map (setting_in s) xs

-- an entry behind those that were accepted, and what is read from there on. 13: its key stood before; 18: as many stand before as a row can have
abbrev pub behind : List ℕ → List Entry → Entry → Answer (List Entry) → Answer (List Entry)
behind s xs x rest = pick (holds (key_in s x) (settings_in s xs)) (refused (bare RECORD)) (pick (leb limit (length xs)) (refused (bare FULL)) rest)

-- at most `fuel` of them, from a place on
unfoldable pub row_from : Edition → ℕ → List Entry → Reader (List Entry)
row_from e zero xs s at = got xs at
row_from e (suc fuel) xs s at =
    pick (ltb at (length s)) (after (entry_at e s at) λ x n. behind s xs x (row_from e fuel (xs ++ (x ∷ [])) s n)) (got xs at)

-- each entry takes bytes, so there are no more than the bytes are
unfoldable pub row_of : Edition → List ℕ → Answer (List Entry)
row_of e s = row_from e (length s) [] s 0

abbrev pub count_read : Answer (List Entry) → Result ℕ Refusal
count_read (got xs n) = Ok (length xs)
count_read (refused t) = Err t

-- the row is accepted, with so many entries
abbrev pub Whole : Edition → List ℕ → ℕ → Type 0
Whole e s count = count_read (row_of e s) ≡ Ok count

-- ── what is found: of entries, and of their readings alike ──

abbrev pub any_key : ℕ → ℕ → Key
any_key vendor property = record { kind = ANY; vendor = vendor; property = property; serial = [] }

abbrev pub own_key : ℕ → ℕ → List ℕ → Key
own_key vendor property serial = record { kind = OWN; vendor = vendor; property = property; serial = serial }

-- of one serial, or of any: then the serial is not looked at
abbrev pub asked_key : Bool → ℕ → ℕ → List ℕ → Key
asked_key own vendor property serial = pick own (own_key vendor property serial) (any_key vendor property)

-- the first that has the key; in a row no other has it
unfoldable pub first_by : {A : Type 0} → (A → Key) → Key → List A → Option A
first_by key k [] = none
first_by key k (x ∷ xs) = pick (same_key k (key x)) (some x) (first_by key k xs)

abbrev pub or_else : {A : Type 0} → Option A → Option A → Option A
or_else (some x) other = some x
or_else none other = other

-- edition 1 does not look at the serial; in edition 2 a serial's own entry wins, wherever it stands
abbrev pub find_by : {A : Type 0} → (A → Key) → Edition → ℕ → ℕ → List ℕ → List A → Option A
find_by key edition.One vendor property serial xs = first_by key (any_key vendor property) xs
find_by key edition.Two vendor property serial xs = or_else (first_by key (own_key vendor property serial) xs) (first_by key (any_key vendor property) xs)

-- what is answered of an entry that is looked for: it, or none, or why the row is refused
abbrev pub Found : Type 0
Found = Result (declared.Option Entry) Refusal

abbrev pub says_held : Option Entry → Found
says_held (some x) = Ok (Some x)
says_held none = Ok None

unfoldable pub find_in : Edition → ℕ → ℕ → List ℕ → List ℕ → Answer (List Entry) → Found
find_in e vendor property serial s (got xs n) = says_held (find_by (key_in s) e vendor property serial xs)
find_in e vendor property serial s (refused t) = Err t

abbrev pub found_in : Edition → ℕ → ℕ → List ℕ → List ℕ → Found
found_in e vendor property serial s = find_in e vendor property serial s (row_of e s)

-- what an answer says is found in the bytes: the reading of an entry that stands there, or none
pub data Finds (s : List ℕ) : Found → Option Setting → Type 0 where
  held : {x : Entry} → Finds s (Ok (Some x)) (some (setting_in s x))
  not_held : Finds s (Ok None) none
