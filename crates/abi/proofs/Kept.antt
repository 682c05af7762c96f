-- What is given of settings: a count, no number where nothing is kept, or the refusal as it is.
-- Assumes nothing.
use Rattle.std.specs.Prelude.{Ok, Err}
use Rattle.std.specs.declared.option.Option.TheVariants.{None}
use Rattle.std.proofs.Common.{◌≡◌, List, ℕ, refl, ap, arith}
use Rattle.std.specs.declared.result.Result.{Result}
use Rattle.layout.specs.Answer.{Told, Answer, got, refused, says_count}
use Rattle.layout.specs.Written.{Wrote}
use Rattle.layout.specs.declared.Refusal.{Refusal}
use Rattle.layout.proofs.laws.Writing.{refusal, done, nothing}
use Rattle.settings.specs.declared.entry.Entry.{Entry}
use Rattle.settings.specs.Row.{Found, count_read}
use Rattle.abi.specs.Answered.{word}
use Rattle.abi.specs.Settings.{counted, found_said}

pub counted_read : (x : Answer (List Entry)) → says_count (count_read x) ≡ counted x
counted_read (got xs n) = refl
counted_read (refused t) = refl

pub counted_told : (x : Answer (List Entry)) {y : Result ℕ Refusal} → y ≡ count_read x → word (says_count y) ≡ word (counted x)
counted_told x e = rw e (ap word (counted_read x))

module _ {y : Found} {old : List ℕ} where
  pub found_none : y ≡ Ok None → Wrote (found_said y) old (got tt 0) old
  found_none e = rw e (done refl (omega arith) nothing)

  pub found_refused : {t : Told} → y ≡ Err t → Wrote (found_said y) old (refused t) old
  found_refused e = refusal (rw e)
