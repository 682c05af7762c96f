-- What is left of the test, from the last end on, is the test.
use Rattle.std.proofs.Common.{◌≡◌, drop}
use Rattle.tree.specs.Table.{rises_from}
use Rattle.tree.proofs.table.ends_ok.Given as goal

abbrev pub invariant-loop-end : goal.invariant-loop-end
invariant-loop-end l = rises_from l.from (drop l.end-index l.ends) l.size ≡ rises_from 0 l.ends l.size
