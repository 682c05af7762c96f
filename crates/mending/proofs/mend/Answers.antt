-- `mending::mend`: the room of both outputs, then the sweep. Assumes nothing.
use Rattle.std.proofs.Common.{length, arith}
use Rattle.mending.proofs.Sweeping.{fresh_sane}
use Rattle.mending.proofs.Going.{least_is}
use Rattle.mending.proofs.Whole.{mends_short, mends_few, mends_done}
use Rattle.mending.proofs.mend.Goals as goal

pub returns-then-out-need : goal.returns-then-out-need
returns-then-out-need c =
    mends_short c.args.s.now c.args.out.now c.args.starts.now c.args.lengths.now (omega (arith, c.mend_need-need.ensures.0, c.if-out-need.true)) c.plain.ensures

pub returns-then-least-need : goal.returns-then-least-need
returns-then-least-need c =
    let a = c.args in
    let slots = least_is (length a.starts.now) (length a.lengths.now) c.least.ensures in
    mends_few a.s.now a.out.now a.starts.now a.lengths.now (omega (arith, c.mend_need-need.ensures.1, c.if-least-need.true, slots)) c.plain-then-least-need.ensures

pub sweep-done-requires : goal.sweep-done-requires
sweep-done-requires c = rw c.start.ensures (fresh_sane (length c.args.s.now) (omega arith))

pub returns : goal.returns
returns c =
    let a = c.args in
    let need = c.mend_need-need.ensures in
    let slots = least_is (length a.starts.now) (length a.lengths.now) c.least.ensures in
    mends_done a.s.now a.out.now a.starts.now a.lengths.now (omega (arith, need.0, c.if-out-need.false)) (omega (arith, need.1, c.if-least-need.false, slots))
    (rw c.start.ensures at c.sweep-done.ensures)
