-- `layout::write::store_all`: the loop owes the bytes of what is left. Assumes nothing.
use Rattle.std.proofs.Common.{◌-◌, ◌+◌}
use Rattle.layout.specs.Bytes.{bytes}
use Rattle.layout.proofs.laws.Writing.{Owes}
use Rattle.layout.proofs.write.store_all.Given as goal

abbrev pub invariant-loop-i : goal.invariant-loop-i
invariant-loop-i l = Owes l.out (l.at + l.i) (bytes (l.n - l.i) l.rest) l.initial.out l.at (bytes l.n l.x)
