-- What was counted, and the paths of the places that are left, is all; the lengths of the first are kept.
use Rattle.std.proofs.Common.{◌≡◌, ◌+◌, length, take, drop}
use Rattle.tree.specs.Path.{joined}
use Rattle.tree.specs.Listed.{Every}
use Rattle.tree.specs.Facts.{Long}
use Rattle.tree.proofs.every.paths_len.Given as goal

abbrev pub invariant-loop-place : goal.invariant-loop-place
invariant-loop-place l = record {
  counted : l.need + length (joined l.parents l.ends l.names (drop l.place-index l.order)) ≡ length (joined l.parents l.ends l.names l.order);
  size : length l.lens ≡ 1024;
  kept : Every (Long l.parents l.ends l.names l.lens) (take l.place-index l.order);
}
