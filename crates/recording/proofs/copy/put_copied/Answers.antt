-- `recording::copy::put_copied`: a turn writes one record or passes a note. Assumes nothing.
use native.Mathlib.Omega.{arith}
use Rattle.layout.proofs.laws.Accepted.{accepted}
use Rattle.layout.proofs.laws.Reading.{heard}
use Rattle.wire.specs.Read.{says_read}
use Rattle.recording.proofs.Placed.{going, going_on, going_out, kept_stops}
use Rattle.recording.proofs.laws.Rowed.{head_placed}
use Rattle.recording.proofs.copy.put_copied.Goals as goal

pub loop-at-init : goal.loop-at-init
loop-at-init c = going c.args.s.now c.args.out.now c.requires.0 c.requires.1

pub overflow_add-h : goal.overflow_add-h
overflow_add-h c =
    let p = accepted _ (head_placed c.args.s.now c.loop-at.at) c.in-Ok.ensures in
    record { fits = omega (arith, p.1, p.2) }

pub loop-at-smaller : goal.loop-at-smaller
loop-at-smaller c =
    let p = accepted _ (head_placed c.args.s.now c.loop-at.at) c.in-Ok.ensures in
    omega (arith, p.1, p.2)

pub loop-at-preserved : goal.loop-at-preserved
loop-at-preserved c = going_on c.loop-at.invariant c.loop-at-test.true c.in-Ok.ensures c.put_kept-o.ensures

pub returns-in_default : goal.returns-in_default
returns-in_default c = absurd (kept_stops c.args.s.now c.loop-at.at c.loop-at-test.true c.loop-at.invariant.all (heard says_read c.in_default.is c.read_head.ensures))

pub returns : goal.returns
returns c = going_out c.loop-at.invariant c.loop-at-test.false
