-- What the names that are left answer is the answer, and `from` is where the next one starts. Assumes nothing.
use mathlib.Core.Path.{◌≡◌}
use lib.ListN.{length}
use Prim.Native.Nat.{◌-◌, ◌≤◌}
use Rattle.tree.specs.Table.{start_of, names_from}
use Rattle.tree.proofs.table.check_names.Given as goal

abbrev pub invariant-loop-end : goal.invariant-loop-end
invariant-loop-end l = record {
  answer : names_from l.end-index (length l.ends - l.end-index) l.ends l.names ≡ names_from 0 (length l.ends) l.ends l.names;
  within : l.end-index ≤ length l.ends;
  start : l.from ≡ start_of l.ends l.end-index;
}
