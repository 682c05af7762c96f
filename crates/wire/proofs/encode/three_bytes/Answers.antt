-- `wire::encode::three_bytes`: the three bytes, each at its weight. Assumes nothing.
use native.Mathlib.Omega.{arith}
use Rattle.layout.specs.Bytes.{number}
use Rattle.wire.proofs.laws.Points.{three_is}
use Rattle.wire.proofs.encode.three_bytes.Goals as goal

pub returns : goal.returns
unfolding number
returns c = rw (three_is c.args.c c.requires.0 c.requires.1) (omega arith)
