-- What `write_entry` answers, by the paper's words and the grammar: 2 and 10 of the serial, 13 where no entry has these fields, 9, else the one entry that has them. No reader and no writer stands here.
-- Assumes nothing.
use Rattle.std.specs.Prelude.{◌≡◌, Bool, true, false, List, ◌++◌, ℕ, ◌≤◌, ◌<◌, length, drop}
use Rattle.layout.specs.Answer.{Answer, got, refused, bare}
use Rattle.layout.specs.Grammar.{tidy}
use Rattle.layout.specs.Refusals.{TEXT, COUNT, RECORD, ROOM}
use Rattle.wire.specs.Layout.{paired, Val, Value}
use Rattle.settings.specs.Layout.{IsEntry}
use Rattle.settings.specs.Row.{asked_key}
use Rattle.settings.specs.declared.entry.Edition.TheVariants as edition

-- the bytes e are the entry with these fields: the second edition knows both kinds
pub record HasFields (vendor property type : ℕ) (w : List ℕ) (own : Bool) (us e : List ℕ) : Type 0 where
  pub value : Val
  pub value_is : Value type tidy w value
  pub is : IsEntry edition.Two e (record { key = asked_key own vendor property us; type = type; value = value })

-- a serial that is asked for is a string
abbrev pub SerialFits : Bool → List ℕ → Type 0
SerialFits own us = own ≡ true → (paired us ≡ true) × (length us ≤ 254)

-- the answer, and what is left of the output
pub data WriteSays (vendor property type : ℕ) (w : List ℕ) (own : Bool) (us old : List ℕ) : Answer (Unit {0}) → List ℕ → Type 0 where
  -- 2
  unpaired : own ≡ true → paired us ≡ false → WriteSays vendor property type w own us old (refused (bare TEXT)) old
  -- 10
  too_many : own ≡ true → paired us ≡ true → 254 < length us → WriteSays vendor property type w own us old (refused (bare COUNT)) old
  -- 13: the bytes are no tidy value of the type, or the entry would be too long for its length
  none_has : SerialFits own us → ((e : List ℕ) → HasFields vendor property type w own us e → ⊥) → WriteSays vendor property type w own us old (refused (bare RECORD)) old
  -- 9
  no_room : {e : List ℕ} → HasFields vendor property type w own us e → length old < length e → WriteSays vendor property type w own us old (refused (bare ROOM)) old
  -- the entry stands at the front, and all past it is as it was
  goes_in : {e : List ℕ} → HasFields vendor property type w own us e → length e ≤ length old → WriteSays vendor property type w own us old (got tt (length e)) (e ++ drop (length e) old)
