-- What `store` answers, by the paper's words and the grammar: the row's own refusal, then the new entry's own, alone in its bytes; 18 only when 256 other entries are held; then 9; else the
-- row in which the entry stands in place of the one that had its key, or last. No reader and no writer stands here.
-- Assumes nothing.
use Rattle.std.specs.Prelude.{Err}
use Rattle.std.specs.Prelude.{◌≡◌, List, [], ◌∷◌, ◌++◌, ℕ, ◌≤◌, ◌<◌, length, drop}
use Rattle.layout.specs.Answer.{Told, Answer, got, refused, bare}
use Rattle.layout.specs.Refusals.{ROOM}
use Rattle.settings.specs.Layout.{Setting, IsEntry, IsRow}
use Rattle.settings.specs.Refusals.{FULL}
use Rattle.settings.specs.Refused.{AloneSays}
use Rattle.settings.specs.RowSays.{Held, RowSays}
use Rattle.settings.specs.declared.entry.Edition.{Edition}

-- the readings after it
pub data Stored (r : Setting) : List Setting → List Setting → Type 0 where
  -- a new key goes last
  last : (rs : List Setting) → (Held r.key rs → ⊥) → Stored r rs (rs ++ (r ∷ []))
  -- a key that is held: in place of the entry that has it
  in_place : (before : List Setting) (old : Setting) (after : List Setting) → (Held r.key before → ⊥) → r.key ≡ old.key → Stored r (before ++ (old ∷ after)) (before ++ (r ∷ after))

-- the row is a row, the entry is an entry, and w is the row after it
pub record NewRow (e : Edition) (row entry w : List ℕ) : Type 0 where
  pub readings : List Setting
  pub reading : Setting
  pub then_readings : List Setting
  pub row_is : IsRow e row readings
  pub entry_is : IsEntry e entry reading
  pub stored : Stored reading readings then_readings
  pub is : IsRow e w then_readings

-- the answer, and what is left of the output
pub data StoreSays (e : Edition) (row entry old : List ℕ) : Answer (Unit {0}) → List ℕ → Type 0 where
  -- the row's own
  of_row : {t : Told} → RowSays e row (Err t) → StoreSays e row entry old (refused t) old
  -- the new entry's own
  of_entry : {rs : List Setting} {t : Told} → IsRow e row rs → AloneSays e entry (refused t) → StoreSays e row entry old (refused t) old
  -- 18: 256 entries are held, and none has its key
  full : {rs : List Setting} {r : Setting} → IsRow e row rs → IsEntry e entry r → (Held r.key rs → ⊥) → length rs ≡ 256 → StoreSays e row entry old (refused (bare FULL)) old
  -- 9
  no_room : {w : List ℕ} → NewRow e row entry w → length old < length w → StoreSays e row entry old (refused (bare ROOM)) old
  -- stored: the new row stands at the front, and all past it is as it was
  goes_in : {w : List ℕ} → NewRow e row entry w → length w ≤ length old → StoreSays e row entry old (got tt (length w)) (w ++ drop (length w) old)
