-- `wire::numbers::put_words`: the loop owes the words of the numbers that are left. Assumes nothing.
use mathlib.Core.List.{map}
use Prim.Native.Nat.{◌+◌, ◌-◌, ◌*◌}
use lib.ListN.{drop}
use Rattle.layout.specs.Bytes.{cells}
use Rattle.layout.proofs.laws.Writing.{Owes}
use Rattle.wire.specs.Numbers.{extended}
use Rattle.wire.proofs.numbers.put_words.Given as goal

abbrev pub invariant-loop-i : goal.invariant-loop-i
invariant-loop-i l =
    Owes l.out l.i (map (extended l.half l.top) (cells l.w (l.n - l.i) (drop (l.at + l.i * l.w) l.s))) l.initial.out 0 (map (extended l.half l.top) (cells l.w l.n (drop l.at l.s)))
