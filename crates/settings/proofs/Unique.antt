-- What the answers of `settings` say determines them; so each promise allows one answer, and one output.
-- Assumes nothing.
use Rattle.wire.proofs.laws.Unique.{tells_read}
use Rattle.layout.specs.Answer.{says_count}
use Rattle.std.specs.Prelude.{Ok, Err}
use Rattle.std.specs.declared.result.Result.{Result}
use Rattle.wire.specs.Read.{Read, says_read}
use Rattle.layout.specs.declared.Refusal.{Refusal}
use mathlib.Core.Path.{◌≡◌, refl}
use mathlib.Core.Bool.{Bool}
use mathlib.Core.List.{List}
use Prim.Native.Nat.{ℕ}
use Rattle.layout.specs.Answer.{Answer, got, refused}
use Rattle.layout.specs.Written.{Wrote}
use Rattle.layout.proofs.laws.Determined.{Tells, retracts, reads_one, one_written}
use Rattle.settings.specs.Entry.{entry_at}
use Rattle.settings.specs.Layout.{Key}
use Rattle.settings.specs.Spell.{entry_said}
use Rattle.settings.specs.Store.{store_said, remove_said, settings_of, setting_of}
use Rattle.settings.specs.declared.entry.Edition.{Edition}
use Rattle.settings.specs.declared.entry.Entry.{Entry}

pub tells_entry : Tells (says_read {A = Entry})
tells_entry = tells_read

module _ (e : Edition) (s : List ℕ) where
  pub one_entry : (at : ℕ) (x y : (Read Entry)) → says_read x ≡ entry_at e s at → says_read y ≡ entry_at e s at → x ≡ y
  one_entry at = reads_one tells_entry (entry_at e s at)

  pub one_stored : (w old new new' : List ℕ) (x y : (Result ℕ Refusal)) → Wrote (store_said (settings_of e s) (setting_of e w)) old (says_count x) new
      → Wrote (store_said (settings_of e s) (setting_of e w)) old (says_count y) new' → (x ≡ y) × (new ≡ new')
  one_stored w = one_written (store_said (settings_of e s) (setting_of e w))

  pub one_removed : (k : Key) (old new new' : List ℕ) (x y : (Result ℕ Refusal)) → Wrote (remove_said (settings_of e s) k) old (says_count x) new → Wrote (remove_said (settings_of e s) k) old (says_count y) new' → (x ≡ y) × (new ≡ new')
  one_removed k = one_written (remove_said (settings_of e s) k)

pub one_spelled : (vendor property type : ℕ) (w : List ℕ) (own : Bool) (us old new new' : List ℕ) (x y : (Result ℕ Refusal)) → Wrote (entry_said vendor property type w own us) old (says_count x) new
    → Wrote (entry_said vendor property type w own us) old (says_count y) new' → (x ≡ y) × (new ≡ new')
one_spelled vendor property type w own us = one_written (entry_said vendor property type w own us)
