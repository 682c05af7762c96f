-- A line more, and that it has room.
-- Assumes nothing.
use Rattle.std.proofs.Common.{◌≡◌, add-one, arith}
use Rattle.layout.proofs.laws.Writing.{nothing, then, long}
use Rattle.mending.proofs.Reporting.{lines_more, no_lines}
use Rattle.mending.proofs.report.put_lines.Goals as goal

pub loop-i-init : goal.loop-i-init
loop-i-init c = (rw no_lines nothing, omega arith)

pub put_line-o-requires : goal.put_line-o-requires
put_line-o-requires c = omega (arith, c.loop-i.invariant.1, c.loop-i-test.true, c.requires.2, long c.loop-i.invariant.0)

pub loop-i-preserved : goal.loop-i-preserved
loop-i-preserved c =
    let p = c.put_line-o.ensures in
    (rw (add-one, lines_more c.args.starts.now c.args.lengths.now c.loop-i.i (omega (arith, c.requires.0)) (omega (arith, c.requires.1))) (then c.loop-i.invariant.0 p.0), omega (arith, p.1, c.loop-i.invariant.1))

pub returns : goal.returns
returns c =
    let e : c.loop-i.i ≡ c.args.n = omega arith in
    (rw e at c.loop-i.invariant.0, omega (arith, c.loop-i.invariant.1, c.requires.2))
