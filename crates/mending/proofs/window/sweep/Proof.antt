-- `mending::window::sweep`: a turn goes past a gap, and past the records behind it, which are written; or no more is done. Assumes nothing.
use Rattle.std.proofs.Common.{◌≡◌, ◌-◌, ◌<◌, ◌≤◌, false, leb, length, drop, sym, refl, ap, ◌∙◌, subst, arith, length-drop, rules, leb-false, leb-true}
use Rattle.layout.proofs.laws.Writing.{long}
use Rattle.mending.specs.Mended.{least}
use Rattle.mending.specs.Window.{opened, drops, closes, sweep_of}
use Rattle.mending.proofs.Sweeping.{Sound, sound_drops, sound_keeps, sane_so, sweep_none, halted, no_slot}
use Rattle.mending.proofs.Going.{least_min, least_most, least_fits, Goes, goes, goes_gap, goes_row, goes_end, finishes_not}
use Rattle.mending.proofs.window.sweep.Statement.{statement}
use Rattle.mending.proofs.window.sweep.Tie as tie

abbrev invariant-loop : tie.invariant-loop-used
invariant-loop s last out₀ starts₀ lengths₀ slots used₀ written₀ told₀ t₀ out starts lengths used written told t =
    Goes (sweep_of last (length out₀) (least (length starts₀) (length lengths₀)) s t₀) (sweep_of last (length out - written) (slots - told) (drop used s) t) out₀ out starts₀ starts lengths₀ lengths used written told
    × Sound t (length s - used) × (used ≤ length s)

abbrev decreases-loop : tie.decreases-loop-used
decreases-loop s last out₀ starts₀ lengths₀ slots used₀ written₀ told₀ t₀ out starts lengths used written told t = length s - used

-- the report's room
slots-so : (c : tie.After-min-slots invariant-loop decreases-loop) → c.min-slots.result ≡ least (length c.args.starts.now) (length c.args.lengths.now)
slots-so c = let a = c.args in c.min-slots.ensures ∙ least_min (length a.starts.now) (length a.lengths.now)

loop-holds : tie.Need-loop-used-init invariant-loop decreases-loop
loop-holds c =
    let k = c in
    let s = k.args.s.now in
    let w = sweep_of k.args.last (length k.args.out.now) (least (length k.args.starts.now) (length k.args.lengths.now)) s k.args.from in
    let room : length k.args.out.now - 0 ≡ length k.args.out.now = omega arith in
    let slots : c.min-slots.result - 0 ≡ least (length k.args.starts.now) (length k.args.lengths.now) = omega (arith, slots-so c) in
    (rw (room, slots) (goes w k.args.out.now k.args.starts.now k.args.lengths.now), omega (arith, sane_so k.args.from (length s) k.requires), omega arith)

-- in the loop: no stretch has been told beyond the room
told_fits : (c : tie.In-loop-used invariant-loop decreases-loop) → c.loop-used.told ≤ c.min-slots.result
told_fits c =
    let l = c.loop-used in
    let a = c.args in
    rw (slots-so c.before.before) (least_fits (length a.starts.now) (length a.lengths.now) (omega (arith, l.invariant.0.starts_fit, l.invariant.0.starts_so.long)) (omega (arith, l.invariant.0.lengths_fit, l.invariant.0.lengths_so.long)))

slots-most : (c : tie.In-loop-used invariant-loop decreases-loop) → (c.min-slots.result ≤ length c.loop-used.starts) × (c.min-slots.result ≤ length c.loop-used.lengths)
slots-most c =
    let l = c.loop-used in
    let a = c.args in
    let most = least_most (length a.starts.now) (length a.lengths.now) in
    (omega (arith, slots-so c.before.before, most.0, l.invariant.0.starts_so.long), omega (arith, slots-so c.before.before, most.1, l.invariant.0.lengths_so.long))

slots-now : (c : tie.In-loop-used invariant-loop decreases-loop) → c.min-slots.result ≡ least (length c.loop-used.starts) (length c.loop-used.lengths)
slots-now c = let l = c.loop-used in rw (l.invariant.0.starts_so.long, l.invariant.0.lengths_so.long) (slots-so c.before.before)

-- after the gap
gapped : (c : tie.After-drops-t invariant-loop decreases-loop) →
    Goes (sweep_of c.args.last (length c.args.out.now) (least (length c.args.starts.now) (length c.args.lengths.now)) c.args.s.now c.args.from)
    (sweep_of c.args.last (length c.loop-used.out - c.loop-used.written) (c.min-slots.result - c.loop-used.told) (drop c.gap_end-gap.result c.args.s.now) c.drops-t.result)
    c.args.out.now c.loop-used.out c.args.starts.now c.loop-used.starts c.args.lengths.now c.loop-used.lengths
    c.gap_end-gap.result c.loop-used.written c.loop-used.told
gapped c =
    let l = c.loop-used in
    let a = c.args in
    rw c.drops-t.ensures (goes_gap a.last a.s.now c.min-slots.result l.t l.invariant.0 c.gap_end-gap.ensures)

sound : (c : tie.After-drops-t invariant-loop decreases-loop) → Sound c.drops-t.result (length c.args.s.now - c.gap_end-gap.result)
sound c =
    let l = c.loop-used in
    let s = c.args.s.now in
    let g = c.gap_end-gap.ensures in
    let left : length s - l.used - (c.gap_end-gap.result - l.used) ≡ length s - c.gap_end-gap.result = omega (arith, g.least) in
    rw c.drops-t.ensures (subst (Sound (drops l.t (c.gap_end-gap.result - l.used))) left (sound_drops l.t (c.gap_end-gap.result - l.used) (length s - l.used) l.invariant.1 (omega (arith, g.within))))

drops-requires : tie.Need-drops-t-requires invariant-loop decreases-loop
drops-requires c κs =
    let l = c.loop-used in
    (omega (arith, l.invariant.1.1), omega (arith, l.invariant.1.0, c.gap_end-gap.ensures.within, c.gap_end-gap.ensures.least))

finish-requires : tie.Need-finish-requires invariant-loop decreases-loop
finish-requires c κs =
    let d = c in
    let l = d.loop-used in
    (omega (arith, (sound c.before.before.before.before.before.before).1), l.invariant.0.starts_fit, l.invariant.0.lengths_fit)

returns : tie.Need-returns-then-run-eq0 invariant-loop decreases-loop
returns c =
    let r = c in
    let d = r in
    let l = d.loop-used in
    let a = d.args in
    let t = d.drops-t.result in
    let come = c.all_come in
    let room = length l.out - l.written in
    let slots = d.min-slots.result in
    let k = least (length l.starts) (length l.lengths) - l.told in
    let same : slots - l.told ≡ k = ap (λ n. n - l.told) (slots-now c.before.before.before.before.before.before.before.before.before.before.before.before.before) in
    let most = least_most (length l.starts) (length l.lengths) in
    let stops : sweep_of a.last room (slots - l.told) (drop d.gap_end-gap.result a.s.now) t ≡ closes come.result k t =
    halted a.last room (slots - l.told) a.s.now d.gap_end-gap.result t r.run_end-run.result d.gap_end-gap.ensures.held r.run_end-run.ensures c.if-run-eq0.true
    ∙ rw (come.ensures, same) in
    goes_end a.last a.s.now slots t (gapped c.before.before.before.before.before.before.before.before.before.before.before) come.result k stops (omega (arith, most.0, l.invariant.0.starts_fit)) (omega (arith, most.1, l.invariant.0.lengths_fit)) c.finish.ensures

-- there is a record
some : (c : tie.Else-run-eq0 invariant-loop decreases-loop) → 0 < c.run_end-run.result.records
some c = omega (arith, c.if-run-eq0.false)

returns-2 : tie.Need-returns-then-not-has_slot invariant-loop decreases-loop
returns-2 c =
    let r = c in
    let d = r in
    let l = d.loop-used in
    let a = d.args in
    let t = d.drops-t.result in
    let room = length l.out - l.written in
    let slots = d.min-slots.result in
    let none : leb (length (opened t)) (slots - l.told) ≡ false = sym c.has_slot.ensures ∙ c.if-not-has_slot.true in
    let stops = no_slot a.last room (slots - l.told) t r.run_end-run.ensures.keeps (some c.before.before.before) (leb-false (length (opened t)) (slots - l.told) none) in
    goes_end a.last a.s.now slots t (gapped c.before.before.before.before.before.before) false 0 stops (omega (arith, l.invariant.0.starts_fit)) (omega (arith, l.invariant.0.lengths_fit)) (finishes_not t refl c.answer.ensures)

-- and room for the stretch before it
slot : (c : tie.Else-not-has_slot invariant-loop decreases-loop) → length (opened c.drops-t.result) ≤ c.min-slots.result - c.loop-used.told
slot c =
    let d = c in
    leb-true (length (opened d.drops-t.result)) (d.min-slots.result - d.loop-used.told) (sym c.has_slot.ensures ∙ c.if-not-has_slot.false)

put-stretch-requires : tie.Need-put_stretch-told-requires invariant-loop decreases-loop
put-stretch-requires c κs =
    let e = c in
    let d = e in
    let most = slots-most c.before.before.before.before.before.before.before.before.before in
    (omega (arith, (sound c.before.before.before.before.before.before.before).1), omega (arith, slot c.before.before, most.0), omega (arith, slot c.before.before, most.1))

loop-again : tie.Need-loop-used-preserved invariant-loop decreases-loop
loop-again c =
    let e = c in
    let r = c in
    let d = r in
    let l = d.loop-used in
    let a = d.args in
    let s = a.s.now in
    let t = d.drops-t.result in
    let run = r.run_end-run.result in
    let row = r.run_end-run.ensures in
    let gap = d.gap_end-gap.result in
    let slots = d.min-slots.result in
    let most = slots-most c.before.before.before.before.before.before.before.before.before.before.before.before.before.before.before.before.before.before.before.before.before in
    let told = c.put_stretch-told.ensures in
    let on = goes_row a.last s slots t (gapped c.before.before.before.before.before.before.before.before.before.before.before.before.before.before.before.before.before.before.before) row (some c.before.before.before.before.before.before.before.before.before.before.before.before.before.before.before.before) (slot c.before.before.before.before.before.before.before.before.before.before.before.before.before.before) most.0 most.1 c.copy-written.ensures told.0 told.1 in
    let left : length s - gap - (run.end - gap) ≡ length s - run.end = omega (arith, row.least) in
    rw c.keeps-t.ensures (on, subst (Sound _) left (sound_keeps t run.records (run.end - gap) (length s - gap) (sound c.before.before.before.before.before.before.before.before.before.before.before.before.before.before.before.before.before.before.before) (omega (arith, row.within)) row.few), row.within)

loop-less : tie.Need-loop-used-smaller invariant-loop decreases-loop
loop-less c =
    let r = c in
    let d = r in
    omega (arith, r.run_end-run.ensures.few, r.run_end-run.ensures.least, r.run_end-run.ensures.within, some c.before.before.before.before.before.before.before.before.before.before.before.before.before.before.before.before, d.gap_end-gap.ensures.least)

keeps-requires : tie.Need-keeps-t-requires invariant-loop decreases-loop
keeps-requires c κs =
    let r = c in
    let d = r in
    let h = sound c.before.before.before.before.before.before.before.before.before.before.before.before.before.before.before.before.before.before in
    let row = r.run_end-run.ensures in
    (h.2, omega (arith, h.1), omega (arith, h.0, row.within, row.least), row.few)

finish-requires-2 : tie.Need-finish-requires-2 invariant-loop decreases-loop
finish-requires-2 c κs =
    let l = c.loop-used in
    (omega (arith, l.invariant.1.1), l.invariant.0.starts_fit, l.invariant.0.lengths_fit)

returns-3 : tie.Need-returns invariant-loop decreases-loop
returns-3 c =
    let k = c in
    let l = k.loop-used in
    let a = k.args in
    let s = a.s.now in
    let room = length l.out - l.written in
    let slots = k.min-slots.result in
    let m = least (length l.starts) (length l.lengths) - l.told in
    let now-so : slots ≡ least (length l.starts) (length l.lengths) = rw (l.invariant.0.starts_so.long, l.invariant.0.lengths_so.long) (slots-so c.before.before.before.before.before.before.before.before.before) in
    let same : slots - l.told ≡ m = ap (λ n. n - l.told) now-so in
    let most = least_most (length l.starts) (length l.lengths) in
    let none : length (drop l.used s) ≤ 0 = omega (arith, length-drop l.used s, c.loop-used-test.false) in
    let stops : sweep_of a.last room (slots - l.told) (drop l.used s) l.t ≡ closes a.last m l.t = sweep_none a.last room (slots - l.told) (drop l.used s) l.t none ∙ rw same in
    goes_end a.last s slots l.t l.invariant.0 a.last m stops (omega (arith, most.0, l.invariant.0.starts_fit)) (omega (arith, most.1, l.invariant.0.lengths_fit)) c.finish-2.ensures

pub sweep_spec : {M : Type 1} → statement M
sweep_spec =
    tie.close
    (tie.spec
    invariant-loop
    decreases-loop
    (λ c κs. search rules)
    loop-holds
    (λ c κs. c.loop-used.invariant.2)
    (λ c. c.gap_end-gap.ensures.least)
    drops-requires
    (λ c. c.loop-used.invariant.0.fits)
    (λ c κs. c.gap_end-gap.ensures.within)
    (λ c κs. search rules)
    finish-requires
    (λ c. c.loop-used.invariant.0.bytes.long)
    (λ c. long c.finish.ensures.starts_so ∙ c.loop-used.invariant.0.starts_so.long)
    (λ c. long c.finish.ensures.lengths_so ∙ c.loop-used.invariant.0.lengths_so.long)
    returns
    (λ c. told_fits c.before.before.before.before.before)
    (λ c κs. search rules)
    (λ c κs. search rules)
    (λ c. c.loop-used.invariant.0.bytes.long)
    (λ c. c.loop-used.invariant.0.starts_so.long)
    (λ c. c.loop-used.invariant.0.lengths_so.long)
    returns-2
    put-stretch-requires
    (λ c. c.run_end-run.ensures.least)
    (λ c κs. search rules)
    (λ c. c.run_end-run.ensures.least)
    keeps-requires
    loop-less
    loop-again
    finish-requires-2
    (λ c. c.loop-used.invariant.0.bytes.long)
    (λ c. long c.finish-2.ensures.starts_so ∙ c.loop-used.invariant.0.starts_so.long)
    (λ c. long c.finish-2.ensures.lengths_so ∙ c.loop-used.invariant.0.lengths_so.long)
    returns-3)
