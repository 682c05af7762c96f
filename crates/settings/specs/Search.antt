-- What the inner functions promise: entries that were accepted, gone through again, and where among them one with a key stands.
-- Assumes nothing.
use Rattle.std.specs.declared.option.Option as declared
use Rattle.std.specs.declared.option.Option.TheVariants.{Some, None}
use Rattle.std.specs.Prelude.{Ok, Err}
use Rattle.std.specs.declared.result.Result.{Result}
use Rattle.layout.specs.declared.Refusal.{Refusal}
use Rattle.std.specs.Prelude.{◌≡◌, Bool, true, List, [], ◌∷◌, ℕ, ◌+◌, ◌≤◌, ltb, length, take, drop}
use Rattle.layout.specs.Answer.{Told, Answer, got, refused, pick}
use Rattle.layout.specs.Grammar.{tidy}
use Rattle.wire.specs.Places.{num_at}
use Rattle.settings.specs.Layout.{Key, Keyed, same_key}
use Rattle.settings.specs.Entry.{entry_at, key_in}
use Rattle.settings.specs.Row.{any_key, own_key}
use Rattle.settings.specs.declared.entry.Edition.{Edition}
use Rattle.settings.specs.declared.entry.Edition.TheVariants as edition
use Rattle.settings.specs.declared.entry.Entry.{Entry}

-- whether these stand there
abbrev pub TellsAt : List ℕ → ℕ → List ℕ → Bool → Type 0
TellsAt s at w r = (r ≡ true → take (length w) (drop at s) ≡ w) × (take (length w) (drop at s) ≡ w → r ≡ true)

-- ── entries that were accepted, gone through again ──

-- the entries xs stand in s from a place up to another
pub data Chain (e : Edition) (s : List ℕ) : ℕ → List Entry → ℕ → Type 0 where
  stop : {at : ℕ} → Chain e s at [] at
  link : {at m n : ℕ} {x : Entry} {xs : List Entry} → entry_at e s at ≡ got x m → Chain e s m xs n → Chain e s at (x ∷ xs) n

-- some entries do
abbrev pub Chained : List ℕ → ℕ → Type 0
Chained s upto = (e : Edition) × (xs : List Entry) × Chain e s 0 xs upto

-- where the first that has the key starts; `upto` where none has it
unfoldable pub place_of : List ℕ → Key → ℕ → List Entry → ℕ
place_of s k upto [] = upto
place_of s k upto (x ∷ xs) = pick (same_key k (key_in s x)) x.start (place_of s k upto xs)

pub record Places (s : List ℕ) (upto : ℕ) (k : Key) (r : ℕ) : Type 0 where
  pub places : (e : Edition) (xs : List Entry) → Chain e s 0 xs upto → r ≡ place_of s k upto xs

-- and the key is the one whose word these bytes are
abbrev pub Seeks : List ℕ → ℕ → List ℕ → ℕ → Type 0
Seeks s upto w r = (k : Key) → Keyed tidy w k → Places s upto k r

-- ── the key that a question asks for ──

-- what writing a key's word answers, and leaves: the bytes at the front are its word; or no bytes are
pub data Spells (k : Key) (out : List ℕ) : (Result ℕ Refusal) → Type 0 where
  word_of : {n : ℕ} → n ≤ length out → Keyed tidy (take n out) k → Spells k out (Ok n)
  no_word : {t : Told} → ((w : List ℕ) → Keyed tidy w k → ⊥) → Spells k out (Err t)

-- the place of the entry that is found, by the order of `find_by`
unfoldable pub best_of : Edition → ℕ → ℕ → List ℕ → List ℕ → List Entry → ℕ
best_of edition.One vendor property serial s xs = place_of s (any_key vendor property) (length s) xs
best_of edition.Two vendor property serial s xs =
    pick (ltb (place_of s (own_key vendor property serial) (length s) xs) (length s))
    (place_of s (own_key vendor property serial) (length s) xs)
    (place_of s (any_key vendor property) (length s) xs)

pub record Best (e : Edition) (vendor property : ℕ) (serial s : List ℕ) (r : ℕ) : Type 0 where
  pub best : (xs : List Entry) → Chain e s 0 xs (length s) → r ≡ best_of e vendor property serial s xs

-- ── what stands at a place ──

-- the entry that starts there; none at the end
abbrev pub held_from : Answer Entry → declared.Option Entry
held_from (got x n) = Some x
held_from (refused t) = None

unfoldable pub held_at : Edition → List ℕ → ℕ → declared.Option Entry
held_at e s at = pick (ltb at (length s)) (held_from (entry_at e s at)) None

-- where it ends; the place itself where none starts
abbrev pub end_from : ℕ → Answer Entry → ℕ
end_from at (got x n) = n
end_from at (refused t) = at

abbrev pub end_of : Edition → List ℕ → ℕ → ℕ
end_of e s at = end_from at (entry_at e s at)

-- where it ends, by the length that stands there; the bytes' end where no length stands
abbrev pub told_from : ℕ → ℕ → Answer ℕ → ℕ
told_from at end (got len n) = at + len
told_from at end (refused t) = end

abbrev pub told_end : List ℕ → ℕ → ℕ
told_end s at = told_from at (length s) (num_at 4 s at)
