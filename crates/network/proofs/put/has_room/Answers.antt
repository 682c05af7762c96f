-- `network::put::has_room`: one after the other is taken from the room. Assumes nothing.
use native.Mathlib.Omega.{arith}
use borrow.Author.Tests.{lt-leb}
use Prim.Native.Nat.{◌+◌}
use Rattle.network.proofs.PutLaws.{room_for}
use Rattle.network.proofs.put.has_room.Goals as goal

pub returns-then-room-k : goal.returns-then-room-k
returns-then-room-k c = let a = c.args in rw (lt-leb (a.k + a.a + a.b + a.c) a.room (omega arith))

pub returns-then-room-k-2 : goal.returns-then-room-k-2
returns-then-room-k-2 c = let a = c.args in rw (lt-leb (a.k + a.a + a.b + a.c) a.room (omega arith))

pub returns-then-room-k-3 : goal.returns-then-room-k-3
returns-then-room-k-3 c = let a = c.args in rw (lt-leb (a.k + a.a + a.b + a.c) a.room (omega arith))

pub returns : goal.returns
returns c = let a = c.args in room_for a.room a.k a.a a.b a.c (omega arith) (omega arith) (omega arith)
