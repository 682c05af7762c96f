-- `wire::encode::point_at`: a unit that is no high surrogate, a last one, or a pair. Assumes nothing.
use native.Mathlib.Omega.{arith}
use Rattle.wire.proofs.laws.Points.{alone, last, pair}
use Rattle.wire.proofs.encode.point_at.Goals as goal

pub returns-then-u-ne54 : goal.returns-then-u-ne54
returns-then-u-ne54 c =
    let k = c in
    alone k.args.s.now k.args.at k.args.left c.unit-u.result k.requires.0 c.unit-u.ensures.0 (omega arith) c.if-u-ne54.true

pub returns-then-left-eq1 : goal.returns-then-left-eq1
returns-then-left-eq1 c =
    let k = c in
    let w = c.unit-u in
    last k.args.s.now k.args.at k.args.left w.result k.requires.0 w.ensures.0 (omega arith) c.if-left-eq1.true

pub returns : goal.returns
returns c =
    let k = c in
    let w = c.unit-u in
    let v = c.unit-v in
    rw c.pair_point.ensures.0 (pair k.args.s.now k.args.at k.args.left w.result k.requires.0 w.ensures.0 (omega arith) v.result v.ensures.0 c.if-u-ne54.false c.if-left-eq1.false)
