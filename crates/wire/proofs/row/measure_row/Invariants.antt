-- `wire::row::measure_row`: what is due of the whole row is what was measured, with what is due of the rest. Assumes nothing.
use Rattle.std.proofs.Common.{◌≡◌, ◌+◌, ◌-◌, ◌≤◌, length, drop}
use Rattle.layout.specs.Answer.{means}
use Rattle.wire.specs.Tidy.{row_word, types}
use Rattle.wire.proofs.row.measure_row.Given as goal

abbrev pub invariant-loop-i : goal.invariant-loop-i
invariant-loop-i l = record {
  adds : means (λ k. l.need + k) (means length (row_word (drop l.i (types l.codes l.n)) l.src l.at)) ≡ means length (row_word (types l.codes l.n) l.src l.first);
  inside : l.at ≤ l.first + (length l.src - l.first);
  shorter : l.first + l.need ≤ l.at;
}
