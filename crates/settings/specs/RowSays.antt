-- What `check_row` answers, by the paper's words: the entries at the front by the grammar, then the next one. No search and no test of keys stands here.
-- Assumes nothing.
use Rattle.std.specs.Prelude.{Ok, Err}
use Rattle.std.specs.declared.result.Result.{Result}
use Rattle.layout.specs.declared.Refusal.{Refusal}
use Rattle.std.specs.Prelude.{◌≡◌, List, ◌∷◌, ℕ, ◌+◌, ◌≤◌, ◌<◌, length, take, drop}
use Rattle.layout.specs.Answer.{Told, refused, bare}
use Rattle.layout.specs.Refusals.{RECORD}
use Rattle.settings.specs.Refusals.{FULL}
use Rattle.settings.specs.Layout.{Key, Setting, IsEntry, IsRow}
use Rattle.settings.specs.Refused.{EntrySays}
use Rattle.settings.specs.declared.entry.Edition.{Edition}

-- some entry has the key
pub data Held (k : Key) : List Setting → Type 0 where
  here : {x : Setting} {xs : List Setting} → k ≡ x.key → Held k (x ∷ xs)
  later : {x : Setting} {xs : List Setting} → Held k xs → Held k (x ∷ xs)

-- the next entry, from a place on, reads as r
pub record Next (e : Edition) (s : List ℕ) (at : ℕ) (r : Setting) : Type 0 where
  pub size : ℕ
  pub within : at + size ≤ length s
  pub is : IsEntry e (take size (drop at s)) r

pub data RowSays (e : Edition) (s : List ℕ) : (Result ℕ Refusal) → Type 0 where
  -- the bytes are a row, with so many entries
  whole : (rs : List Setting) → IsRow e s rs → RowSays e s (Ok (length rs))
  -- behind a row the next entry's own refusal
  of_entry : (at : ℕ) (rs : List Setting) {t : Told} → at < length s → IsRow e (take at s) rs → EntrySays e at (drop at s) (refused t) → RowSays e s (Err t)
  -- 13: its key stood before
  twice : (at : ℕ) (rs : List Setting) (r : Setting) → IsRow e (take at s) rs → Next e s at r → Held r.key rs → RowSays e s (Err (bare RECORD))
  -- 18: a new key, and 256 stand before it
  full : (at : ℕ) (rs : List Setting) (r : Setting) → IsRow e (take at s) rs → Next e s at r → (Held r.key rs → ⊥) → length rs ≡ 256 → RowSays e s (Err (bare FULL))
