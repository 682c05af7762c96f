-- `layout::write::store` tests the room, then stores. Assumes nothing.
use native.Mathlib.Omega.{arith}
use Rattle.layout.specs.Bytes.{bytes}
use Rattle.layout.proofs.laws.Numbers.{length_bytes}
use Rattle.layout.proofs.laws.Writing.{in_room, out_of_room, nothing}
use Rattle.layout.proofs.write.store.Goals as goal

pub returns-then-left-n : goal.returns-then-left-n
returns-then-left-n c =
    let a = c.args in
    rw (out_of_room a.out.now a.at (bytes a.n a.x) (omega (arith, length_bytes a.n a.x))) nothing

pub returns : goal.returns
returns c =
    let a = c.args in
    rw (in_room a.out.now a.at (bytes a.n a.x) (omega (arith, length_bytes a.n a.x))) c.store_all.ensures
