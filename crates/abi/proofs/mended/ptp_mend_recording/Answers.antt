-- The number's room, then what mending answers.
use Rattle.std.proofs.Common.{arith}
use Rattle.abi.proofs.Counted.{counted_short, counted_done, counted_refused}
use Rattle.abi.proofs.mended.ptp_mend_recording.Goals as goal

pub returns-then-counts-eq0 : goal.returns-then-counts-eq0
returns-then-counts-eq0 c =
    let a = c.args in
    counted_short a.s.now a.out.now a.starts.now a.lengths.now a.counts.now (omega (arith, c.if-counts-eq0.true)) c.plain.ensures c.told.ensures

pub returns-in-Ok : goal.returns-in-Ok
returns-in-Ok c =
    let a = c.args in
    counted_done a.s.now a.out.now a.starts.now a.lengths.now a.counts.now (omega (arith, c.if-counts-eq0.false)) c.in-Ok.ensures c.told-in-Ok.ensures

pub returns-in-Err : goal.returns-in-Err
returns-in-Err c =
    let a = c.args in
    counted_refused a.s.now a.out.now a.starts.now a.lengths.now a.counts.now (omega (arith, c.if-counts-eq0.false)) c.in-Err.ensures c.told-in-Err.ensures
