-- `recording::copy::copy_swept`: the room, then the bytes. Assumes nothing.
use mathlib.Core.Path.{sym}
use native.Mathlib.Omega.{arith}
use Rattle.layout.proofs.laws.Accepted.{accepted}
use Rattle.recording.proofs.Placed.{copied_adds, copies_short, copies_all, copies_done}
use Rattle.recording.proofs.copy.copy_swept.Goals as goal

pub overflow_sub-need : goal.overflow_sub-need
overflow_sub-need c = let p = accepted _ (copied_adds c.args.s.now) (sym c.requires) in omega (arith, p.0)

pub returns-then-out-need : goal.returns-then-out-need
returns-then-out-need c = copies_short c.args.s.now c.args.out.now (sym c.requires) c.if-out-need.true c.plain.ensures

pub returns-then-left-eq0 : goal.returns-then-left-eq0
returns-then-left-eq0 c = copies_all c.args.s.now c.args.out.now (sym c.requires) c.if-out-need.false c.if-left-eq0.true c.copy-all.ensures

pub put_copied-n-requires : goal.put_copied-n-requires
put_copied-n-requires c =
    let p = accepted _ (copied_adds c.args.s.now) (sym c.requires) in
    (p.1, omega (arith, p.0, c.if-out-need.false))

pub returns : goal.returns
returns c = copies_done c.args.s.now c.args.out.now (sym c.requires) c.if-out-need.false c.put_copied-n.ensures
