-- What is left of the test is the test.
use Rattle.std.proofs.Common.{◌≡◌, drop}
use Rattle.tree.specs.Table.{upheld_from}
use Rattle.tree.proofs.table.marks_ok.Given as goal

abbrev pub invariant-loop-k : goal.invariant-loop-k
invariant-loop-k l = upheld_from l.k (drop l.k l.parents) l.marks ≡ upheld_from 1 (drop 1 l.parents) l.marks
