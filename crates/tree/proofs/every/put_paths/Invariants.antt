-- The loop owes the paths of the places that are left, and their ends; the paths of the first stand.
use Rattle.std.proofs.Common.{◌≡◌, length, take, drop}
use Rattle.layout.proofs.laws.Writing.{Owes}
use Rattle.tree.specs.Path.{joined, ends_from}
use Rattle.tree.specs.Listed.{Every}
use Rattle.tree.specs.Facts.{Stands}
use Rattle.tree.proofs.every.put_paths.Given as goal

abbrev pub invariant-loop-i : goal.invariant-loop-i
invariant-loop-i l = record {
  paths : Owes l.out l.o (joined l.parents l.ends l.names (drop l.i l.order)) l.fn.out 0 (joined l.parents l.ends l.names l.order);
  stops : Owes l.out_ends l.i (ends_from l.o l.parents l.ends l.names (drop l.i l.order)) l.fn.out_ends 0 (ends_from 0 l.parents l.ends l.names l.order);
  size : length l.starts ≡ 1024;
  stand : Every (Stands l.parents l.ends l.names l.starts l.out l.o) (take l.i l.order);
}
