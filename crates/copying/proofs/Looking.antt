-- What is seen at the front of bytes: whether more may change it, and how the copy ends.
-- Assumes nothing.
use Rattle.std.proofs.Common.{◌≡◌, ℕ, Bool, List, length, ap, arith, lt-ltb}
use Rattle.layout.specs.Answer.{got}
use Rattle.layout.proofs.laws.Accepted.{accepted}
use Rattle.recording.specs.Content.{Record}
use Rattle.recording.specs.Record.{record_of}
use Rattle.recording.specs.Row.{waits}
use Rattle.recording.proofs.laws.Rowed.{record_stands}
use Rattle.copying.specs.declared.Fate.{Fate}
use Rattle.copying.specs.declared.Fate.TheVariants as fate
use Rattle.copying.specs.declared.Outcome.{Outcome}
use Rattle.copying.specs.Turn.{end_of, fate_of, outcome_of}

pub seen_so : (last : Bool) (s : List ℕ) {w : Bool} {f : Fate} → w ≡ waits last s → f ≡ fate_of s → ◌≡◌ {A = Outcome} (record { waits = w; fate = f }) (outcome_of last s)
seen_so last s e f = rw (e, f)

pub got_going : (s : List ℕ) {x : Record} {n : ℕ} → got x n ≡ record_of s → fate.Going ≡ fate_of s
unfolding fate_of
got_going s e = let p = accepted _ (record_stands s) e in rw (lt-ltb 0 (length s) (omega (arith, p.till, p.within))) (ap end_of e)
