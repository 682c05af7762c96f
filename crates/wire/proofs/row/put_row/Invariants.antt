-- `wire::row::put_row`: the rest of the row is due, from the place reached. Assumes nothing.
use Rattle.std.proofs.Common.{◌≡◌, true, drop}
use Rattle.layout.specs.Written.{spelling, took}
use Rattle.layout.proofs.laws.Writing.{Owes}
use Rattle.wire.specs.Tidy.{row_word, types}
use Rattle.wire.proofs.row.put_row.Given as goal

abbrev pub invariant-loop-i : goal.invariant-loop-i
invariant-loop-i l = record {
  owes : Owes l.out l.o (spelling (row_word (drop l.i (types l.codes l.n)) l.src l.at)) l.initial.out l.to (spelling (row_word (types l.codes l.n) l.src l.first));
  read : took (row_word (drop l.i (types l.codes l.n)) l.src l.at) ≡ true;
}
