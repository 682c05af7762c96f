-- `wire::utf8::has_room`: no unit needs more than four bytes. Assumes nothing.
use mathlib.Core.Path.{sym, ◌∙◌}
use Prim.Native.Nat.{◌-◌, ◌*◌}
use lib.ListN.{length, drop}
use borrow.Author.Tests.{le-leb}
use native.Mathlib.Omega.{arith}
use Rattle.layout.specs.Bytes.{cells}
use Rattle.wire.specs.Utf8.{utf8}
use Rattle.wire.proofs.Spelled.{length_cells}
use Rattle.wire.proofs.laws.Points.{utf8_few}
use Rattle.wire.proofs.utf8.has_room.Goals as goal

pub returns-then-count-left : goal.returns-then-count-left
returns-then-count-left c =
    let a = c.args in
    let units = cells 2 a.count (drop a.start a.s.now) in
    le-leb (a.count * 4) c.left-left.result (omega arith)
    ∙ sym (le-leb (length (utf8 units)) (length a.out.now - a.o) (omega (arith, utf8_few units, length_cells 2 a.count (drop a.start a.s.now))))
