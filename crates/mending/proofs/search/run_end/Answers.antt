-- `mending::search::run_end`: a turn goes past one record that has room, or stops for one of the three reasons. Assumes nothing.
use Rattle.std.proofs.Common.{drop, arith, length-drop}
use Rattle.layout.proofs.laws.Accepted.{accepted}
use Rattle.layout.proofs.laws.Reading.{heard}
use Rattle.layout.proofs.laws.Words.{part_from}
use Rattle.recording.specs.Record.{says_record}
use Rattle.recording.proofs.laws.Rowed.{record_stands}
use Rattle.mending.specs.Passed.{none_kept, one_kept, no_bytes, stands_none, no_room}
use Rattle.mending.proofs.Searching.{row_so}
use Rattle.mending.proofs.search.run_end.Goals as goal

pub loop-end-init : goal.loop-end-init
loop-end-init c = (none_kept, omega arith, c.requires, omega arith, omega arith)

pub returns-then-left-next : goal.returns-then-left-next
returns-then-left-next c =
    let i = c.loop-end.invariant in
    let e = rw (part_from c.args.s.now c.loop-end.end) at c.in-Ok.ensures in
    row_so i.0 i.1 i.2 i.3 i.4 (no_room e c.if-left-next.true)

pub overflow_add-end : goal.overflow_add-end
overflow_add-end c =
    let e = rw (part_from c.args.s.now c.loop-end.end) at c.in-Ok.ensures in
    let r = accepted _ (record_stands (drop c.loop-end.end c.args.s.now)) e in
    omega (arith, r.within, length-drop c.loop-end.end c.args.s.now, c.loop-end.invariant.2)

pub overflow_add-records : goal.overflow_add-records
overflow_add-records c = omega (arith, c.loop-end.invariant.2, c.loop-end.invariant.4, c.loop-end-test.true)

pub loop-end-smaller : goal.loop-end-smaller
loop-end-smaller c =
    let e = rw (part_from c.args.s.now c.loop-end.end) at c.in-Ok.ensures in
    let r = accepted _ (record_stands (drop c.loop-end.end c.args.s.now)) e in
    omega (arith, r.till, r.within, length-drop c.loop-end.end c.args.s.now)

pub loop-end-preserved : goal.loop-end-preserved
loop-end-preserved c =
    let i = c.loop-end.invariant in
    let e = rw (part_from c.args.s.now c.loop-end.end) at c.in-Ok.ensures in
    let r = accepted _ (record_stands (drop c.loop-end.end c.args.s.now)) e in
    (one_kept i.0 c.loop-end-test.true e, omega (arith, i.1), omega (arith, r.within, length-drop c.loop-end.end c.args.s.now, i.2), omega (arith, i.1, i.3, c.if-left-next.false), omega (arith, r.till, i.1, i.4))

pub returns-in_default : goal.returns-in_default
returns-in_default c =
    let i = c.loop-end.invariant in
    let e = rw (part_from c.args.s.now c.loop-end.end) at (heard says_record c.in_default.is c.read_record.ensures) in
    row_so i.0 i.1 i.2 i.3 i.4 (stands_none e)

pub returns : goal.returns
returns c = let i = c.loop-end.invariant in row_so i.0 i.1 i.2 i.3 i.4 (no_bytes c.loop-end-test.false)
