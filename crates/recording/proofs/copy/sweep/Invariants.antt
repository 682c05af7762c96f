-- `recording::copy::sweep`: what is found and counted from the place on is the same, and the records passed so far are a recording of which just that is
-- left out. Assumes nothing.
use mathlib.Core.Path.{◌≡◌}
use Prim.Native.Nat.{ℕ, ◌-◌, ◌≤◌}
use mathlib.Core.List.{List}
use lib.ListN.{length, take}
use Rattle.layout.specs.Answer.{got, means}
use Rattle.recording.specs.Row.{whole_of}
use Rattle.recording.specs.Copied.{left_by, left_out}
use Rattle.recording.specs.declared.copy.Left.{Left}
use Rattle.recording.proofs.Placed.{rest, whole_rest}
use Rattle.recording.proofs.copy.sweep.Given as goal

pub record Going (s : List ℕ) (at : ℕ) (l : Left) : Type 0 where
  pub whole : whole_rest s at ≡ whole_of s
  pub front : left_out (take at s) ≡ got l at
  pub rests : means (left_by l) (rest s at) ≡ left_out s
  pub fewer : l.records ≤ l.bytes
  pub less : l.bytes ≤ at
  pub within : at ≤ length s

abbrev pub invariant-loop-at : goal.invariant-loop-at
invariant-loop-at l = Going l.s l.at l.left

abbrev pub decreases-loop-at : goal.decreases-loop-at
decreases-loop-at l = length l.s - l.at
