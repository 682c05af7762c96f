-- `wire::encode::four_bytes`: the four bytes, each at its weight. Assumes nothing.
use native.Mathlib.Omega.{arith}
use Rattle.layout.specs.Bytes.{number}
use Rattle.wire.proofs.laws.Points.{four_is}
use Rattle.wire.proofs.encode.four_bytes.Goals as goal

pub returns : goal.returns
unfolding number
returns c = rw (four_is c.args.c c.requires.0) (omega arith)
