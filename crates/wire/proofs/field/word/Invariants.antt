-- `wire::field::word` takes the bytes from the last to the first: what it has is the number of those that it passed. Assumes nothing.
use mathlib.Core.Path.{◌≡◌}
use Prim.Native.Nat.{◌<◌, ◌-◌, ◌+◌, ◌^◌}
use lib.ListN.{take, drop}
use Rattle.layout.specs.Bytes.{number}
use Rattle.wire.proofs.field.word.Given as goal

abbrev pub invariant-loop-k : goal.invariant-loop-k
invariant-loop-k l = (l.v ≡ number (take (l.w - l.k) (drop (l.at + l.k) l.s))) × (l.v < 256 ^ (l.w - l.k))
