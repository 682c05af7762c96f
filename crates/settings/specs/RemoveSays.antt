-- What `remove` answers, by the paper's words and the grammar: the row's own refusal, then 9, else the row in which no entry has the key and every other stands as it stood. No reader and no writer stands here.
-- Assumes nothing.
use Rattle.std.specs.Prelude.{Err}
use Rattle.std.specs.Prelude.{◌≡◌, List, ◌∷◌, ◌++◌, ℕ, ◌≤◌, ◌<◌, length, drop}
use Rattle.layout.specs.Answer.{Told, Answer, got, refused, bare}
use Rattle.layout.specs.Refusals.{ROOM}
use Rattle.settings.specs.Layout.{Key, Setting, IsRow}
use Rattle.settings.specs.RowSays.{Held, RowSays}
use Rattle.settings.specs.declared.entry.Edition.{Edition}

-- the readings after it
pub data Removed (k : Key) : List Setting → List Setting → Type 0 where
  -- a key that is not held: as they were
  none_had : (rs : List Setting) → (Held k rs → ⊥) → Removed k rs rs
  taken_out : (before : List Setting) (old : Setting) (after : List Setting) → (Held k before → ⊥) → k ≡ old.key → Removed k (before ++ (old ∷ after)) (before ++ after)

-- the row is a row, and w is the row after it
pub record LessRow (e : Edition) (row : List ℕ) (k : Key) (w : List ℕ) : Type 0 where
  pub readings : List Setting
  pub then_readings : List Setting
  pub row_is : IsRow e row readings
  pub removed : Removed k readings then_readings
  pub is : IsRow e w then_readings

-- the answer, and what is left of the output
pub data RemoveSays (e : Edition) (row : List ℕ) (k : Key) (old : List ℕ) : Answer (Unit {0}) → List ℕ → Type 0 where
  -- the row's own
  of_row : {t : Told} → RowSays e row (Err t) → RemoveSays e row k old (refused t) old
  -- 9
  no_room : {w : List ℕ} → LessRow e row k w → length old < length w → RemoveSays e row k old (refused (bare ROOM)) old
  -- the new row stands at the front, and all past it is as it was
  goes_out : {w : List ℕ} → LessRow e row k w → length w ≤ length old → RemoveSays e row k old (got tt (length w)) (w ++ drop (length w) old)
