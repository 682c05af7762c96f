-- Both outputs have room, or neither is changed.
use native.Mathlib.Omega.{arith}
use Rattle.tree.proofs.Trails.{given_no_ends, given_no_room, given_done}
use Rattle.tree.proofs.every.give_paths.Goals as goal

pub returns-then-out_ends-order : goal.returns-then-out_ends-order
returns-then-out_ends-order c = given_no_ends _ _ _ _ _ _ c.plain.ensures c.if-out_ends-order.true

pub returns-then-out-need : goal.returns-then-out-need
returns-then-out-need c = given_no_room _ _ _ _ _ _ c.if-out_ends-order.false c.plain-then-out-need.ensures (omega (arith, c.paths_len-need.ensures.0, c.if-out-need.true))

pub returns : goal.returns
returns c = given_done _ _ _ _ _ _ c.if-out_ends-order.false (omega (arith, c.paths_len-need.ensures.0, c.if-out-need.false)) c.put_paths.ensures.put c.put_paths.ensures.put_2
