-- `mending::search::gap_end`: a turn drops one byte, or stops for one of the three reasons. Assumes nothing.
use Rattle.std.proofs.Common.{◌≡◌, ◌-◌, ◌≤◌, true, false, length, drop, sym, arith, rules}
use Rattle.layout.proofs.laws.Reading.{heard}
use Rattle.layout.proofs.laws.Words.{part_from}
use Rattle.recording.specs.Row.{is_cut, waits, says_front, may_change}
use Rattle.mending.specs.Passed.{Drops, none_dropped, one_dropped, at-end, waiting, stands}
use Rattle.mending.proofs.search.gap_end.Statement.{statement}
use Rattle.mending.proofs.search.gap_end.Tie as tie

abbrev invariant-loop : tie.invariant-loop-at
invariant-loop s from last at₀ at = Drops last s from at × (from ≤ at) × (at ≤ length s)

abbrev decreases-loop : tie.decreases-loop-at
decreases-loop s from last at₀ at = length s - at

loop-holds : tie.Need-loop-at-init invariant-loop decreases-loop
loop-holds c = (none_dropped, omega arith, c.requires)

returns : tie.Need-returns-in-Got invariant-loop decreases-loop
returns c =
    let l = c in
    let s = l.args.s.now in
    let e = rw (part_from s l.loop-at.at) at (heard says_front c.in-Got.is c.read_front.ensures.answer) in
    record { drops = l.loop-at.invariant.0; held = stands c.loop-at-test.true e; least = l.loop-at.invariant.1; within = l.loop-at.invariant.2 }

returns-2 : tie.Need-returns-in-Cut invariant-loop decreases-loop
unfolding waits is_cut
returns-2 c =
    let l = c in
    let a = l.args in
    let w : waits a.last (drop l.loop-at.at a.s.now) ≡ true = rw (part_from a.s.now l.loop-at.at) at (sym (heard may_change c.in-Cut.is c.read_front.ensures.waiting)) in
    record { drops = l.loop-at.invariant.0; held = waiting c.loop-at-test.true w; least = l.loop-at.invariant.1; within = l.loop-at.invariant.2 }

loop-again : tie.Need-loop-at-preserved invariant-loop decreases-loop
unfolding waits is_cut
loop-again c =
    let l = c in
    let a = l.args in
    let s = a.s.now in
    let more = c.loop-at-test.true in
    let p = c.read_front.ensures in
    let w : waits a.last (drop l.loop-at.at s) ≡ false = rw (part_from s l.loop-at.at) at (sym (heard may_change c.in-Refused.is p.waiting)) in
    let e = rw (part_from s l.loop-at.at) at (heard says_front c.in-Refused.is p.answer) in
    (one_dropped l.loop-at.invariant.0 more w e, omega (arith, l.loop-at.invariant.1), omega arith)

returns-3 : tie.Need-returns invariant-loop decreases-loop
returns-3 c =
    let l = c in
    record { drops = l.loop-at.invariant.0; held = at-end c.loop-at-test.false; least = l.loop-at.invariant.1; within = l.loop-at.invariant.2 }

pub gap_end_spec : {M : Type 1} → statement M
gap_end_spec =
    tie.close
    (tie.spec
    invariant-loop
    decreases-loop
    loop-holds
    (λ c. search rules)
    (λ c. search rules)
    (λ c. search rules)
    (λ c κs. search rules)
    (λ c. search rules)
    returns
    (λ c. search rules)
    returns-2
    (λ c. search rules)
    (λ c. search rules)
    (λ c. search rules)
    loop-again
    returns-3)
