-- The places from k on are linked.
use Rattle.std.proofs.Common.{◌≤◌, ◌<◌, length}
use Rattle.tree.specs.Table.{live}
use Rattle.tree.specs.Links.{Linking}
use Rattle.tree.proofs.linking.link_ruled.Given as goal

abbrev pub invariant-loop-k : goal.invariant-loop-k
invariant-loop-k l = record { linked : Linking l.parents (live l.marks) l.k l.first l.next; within : l.k ≤ length l.parents; some : 0 < l.k }
