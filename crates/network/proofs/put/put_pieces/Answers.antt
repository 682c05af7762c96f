use Rattle.std.proofs.Common.{arith}
use Rattle.network.proofs.PutLaws.{piece_next, piece_never, piece_end}
use Rattle.network.proofs.put.put_pieces.Goals as goal

pub returns-in_default : goal.returns-in_default
returns-in_default c = piece_never c.loop-i.invariant c.loop-i-test.true c.in_default.ensures

pub loop-i-smaller : goal.loop-i-smaller
loop-i-smaller c =
    let p = piece_next c.loop-i.invariant c.requires.1 c.loop-i-test.true c.in-Ok.ensures (rw c.piece_size.ensures at c.copy-o.ensures) in
    omega (arith, p.0, p.1)

pub returns : goal.returns
returns c = piece_end c.loop-i.invariant c.loop-i-test.false
