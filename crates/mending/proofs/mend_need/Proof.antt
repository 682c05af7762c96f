-- `mending::mend_need`: a turn counts a gap's stretch and a row's bytes, and what is counted from there on is the same. Assumes nothing.
use Rattle.std.proofs.Common.{◌≡◌, ◌+◌, ◌-◌, ◌≤◌, length, drop, ap, arith, length-drop, rules}
use Rattle.mending.specs.Mended.{mend_said, dropped_of}
use Rattle.mending.proofs.Cutting.{text, told, text_whole, told_whole, text_none, told_none, turn_text, turn_told, turn_on, stretch_most}
use Rattle.mending.proofs.mend_need.Statement.{statement}
use Rattle.mending.proofs.mend_need.Tie as tie

abbrev invariant-loop : tie.invariant-loop-at
invariant-loop s at₀ bytes₀ stretches₀ at bytes stretches =
    (bytes + length (text at (drop at s)) ≡ length (mend_said s)) × (stretches + length (told at 0 (drop at s)) ≡ length (dropped_of s)) × (bytes ≤ at) × (stretches ≤ at) × (at ≤ length s)

abbrev decreases-loop : tie.decreases-loop-at
decreases-loop s at₀ bytes₀ stretches₀ at bytes stretches = length s - at

loop-holds : tie.Need-loop-at-init invariant-loop decreases-loop
loop-holds c =
    let s = c.args.s.now in
    (omega (arith, ap length (text_whole s)), omega (arith, ap length (told_whole s)), omega arith, omega arith, omega arith)

add-stretches : tie.Need-overflow_add-stretches invariant-loop decreases-loop
add-stretches c =
    let l = c.loop-at in
    let gap = c.gap_end-gap.result in
    let g = c.gap_end-gap.ensures in
    record { fits = omega (arith, l.invariant.3, c.stretches_in-stretches.ensures, stretch_most gap (gap - l.at), g.least, g.within) }

add-bytes : tie.Need-overflow_add-bytes invariant-loop decreases-loop
add-bytes c =
    let l = c.loop-at in
    let g = c.gap_end-gap.ensures in
    let r = c.run_end-run.ensures in
    record { fits = omega (arith, l.invariant.2, g.least, r.least, r.within) }

loop-again : tie.Need-loop-at-preserved invariant-loop decreases-loop
loop-again c =
    let l = c.loop-at in
    let g = c.gap_end-gap.ensures in
    let r = c.run_end-run.ensures in
    let n = c.stretches_in-stretches.ensures in
    let gap = c.gap_end-gap.result in
    let most = stretch_most gap (gap - l.at) in
    (omega (arith, l.invariant.0, turn_text g r), omega (arith, l.invariant.1, turn_told g r, n), omega (arith, l.invariant.2, r.least, g.least), omega (arith, l.invariant.3, n, most, r.least, g.least), r.within)

returns : tie.Need-returns invariant-loop decreases-loop
returns c =
    let l = c.loop-at in
    let s = c.args.s.now in
    let none : length (drop l.at s) ≤ 0 = omega (arith, length-drop l.at s, c.loop-at-test.false) in
    (omega (arith, l.invariant.0, ap length (text_none l.at (drop l.at s) none)), omega (arith, l.invariant.1, ap length (told_none l.at (drop l.at s) 0 none)))

pub mend_need_spec : {M : Type 1} → statement M
mend_need_spec =
    tie.close
    (tie.spec
    invariant-loop
    decreases-loop
    loop-holds
    (λ c κs. c.loop-at.invariant.4)
    (λ c κs. search rules)
    add-stretches
    (λ c κs. c.gap_end-gap.ensures.within)
    (λ c. c.run_end-run.ensures.least)
    add-bytes
    (λ c. omega (arith, turn_on c.gap_end-gap.ensures c.run_end-run.ensures c.loop-at-test.true, c.run_end-run.ensures.within))
    loop-again
    returns)
