-- `wire::encode::two_bytes`: the two bytes, each at its weight. Assumes nothing.
use native.Mathlib.Omega.{arith}
use Rattle.layout.specs.Bytes.{number}
use Rattle.wire.proofs.laws.Points.{two_is}
use Rattle.wire.proofs.encode.two_bytes.Goals as goal

pub returns : goal.returns
unfolding number
returns c = (rw (two_is c.args.c c.requires.0 c.requires.1) (omega arith), omega arith)
