-- `wire::text::largest`: what no unit of those left exceeds, nor what was found, no unit exceeds. Assumes nothing.
use Prim.Native.Nat.{ℕ, ◌≤◌, ◌+◌, ◌-◌, ◌*◌}
use lib.ListN.{drop}
use Rattle.layout.specs.Bytes.{cells}
use Rattle.wire.specs.Utf8.{NoneAbove}
use Rattle.wire.proofs.text.largest.Given as goal

abbrev pub invariant-loop-i : goal.invariant-loop-i
invariant-loop-i l = (m : ℕ) → l.most ≤ m → NoneAbove m (cells 2 (l.n - l.i) (drop (l.at + l.i * 2) l.s)) → NoneAbove m (cells 2 l.n (drop l.at l.s))
