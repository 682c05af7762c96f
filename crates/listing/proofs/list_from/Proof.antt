-- `listing::list_from`: each turn lists one record, and what is still to be listed goes on from there. Assumes nothing.
use Rattle.std.proofs.Common.{◌≡◌, ◌-◌, ◌^◌, ◌<◌, ◌≤◌, true, false, length, drop, sym, arith, length-drop, rules}
use Rattle.layout.specs.Answer.{got, refused}
use Rattle.layout.proofs.laws.Accepted.{accepted}
use Rattle.layout.proofs.laws.Numbers.{bytes_of, Bytes-drop}
use Rattle.layout.proofs.laws.Reading.{heard}
use Rattle.layout.proofs.laws.Stored.{first}
use Rattle.layout.proofs.laws.Words.{part_from}
use Rattle.recording.specs.Record.{record_of, record_from}
use Rattle.recording.specs.Row.{is_cut, waits, says_front, may_change}
use Rattle.recording.proofs.laws.Rowed.{record_stands, record_small}
use Rattle.listing.specs.Lines.{record_line}
use Rattle.listing.specs.Window.{line_room, window_of}
use Rattle.listing.proofs.Cut.{pauses_cut, pauses_none, pauses_not, whole_ready}
use Rattle.text.proofs.laws.Refusing.{refusal_short}
use Rattle.listing.proofs.Fitting.{record_short}
use Rattle.listing.proofs.Windows.{Goes, begins, turn, wrong, goes_out, window_full, window_waits}
use Rattle.listing.proofs.list_from.Statement.{statement}
use Rattle.listing.proofs.list_from.Tie as tie

abbrev invariant-loop : tie.invariant-loop-out
invariant-loop s last start count names out₀ used₀ written₀ place₀ records₀ out used written place records =
    Goes (window_of last (length out₀) s place₀ records₀) (window_of last (length out - written) (drop used s) place records) out₀ out used written × (used ≤ length s) × (place < 2 ^ 64)

abbrev decreases-loop : tie.decreases-loop-out
decreases-loop s last start count names out₀ used₀ written₀ place₀ records₀ out used written place records = length s - used

-- the record that was read, and the room for its line
read : (c : tie.In-Got invariant-loop decreases-loop) → got (record_from c.in-Got.x) c.in-Got.next.at ≡ record_of (drop c.loop-out.used c.args.s.now)
read c = rw (part_from c.args.s.now c.loop-out.used) at (heard says_front c.in-Got.is c.read_front.ensures.answer)

short-line : (c : tie.In-Got invariant-loop decreases-loop) → length (record_line c.loop-out.place (record_from c.in-Got.x)) ≤ line_room
short-line c =
    let l = c in
    let s = l.args.s.now in
    let rest = drop l.loop-out.used s in
    let bytes = Bytes-drop l.loop-out.used s (bytes_of s (λ i. (l.shared_slice_known-1.given i).fits)) in
    record_short l.loop-out.place rest (record_from c.in-Got.x) c.in-Got.next.at l.loop-out.invariant.2 (omega (arith, length-drop l.loop-out.used s))
    (accepted _ (record_stands rest) (read c)) (accepted _ (record_small rest bytes) (read c))

loop-holds : tie.Need-loop-out-init invariant-loop decreases-loop
loop-holds c =
    let a = c.args in
    (begins a.last a.s.now a.out.now a.start a.count, omega arith, c.ranges.start.fits)

put-record-requires : tie.Need-put_record-written-requires invariant-loop decreases-loop
put-record-requires c κs =
    let h = short-line c.before in
    (c.requires, omega (arith, c.loop-out-test.true))

add-used : tie.Need-overflow_add-used invariant-loop decreases-loop
add-used c =
    let k = c in
    let l = k in
    let r = accepted _ (record_stands (drop l.loop-out.used l.args.s.now)) (read c.before.before.before.before) in
    record { fits = omega (arith, r.within, length-drop l.loop-out.used l.args.s.now) }

loop-less : tie.Need-loop-out-smaller invariant-loop decreases-loop
loop-less c =
    let k = c in
    let l = k in
    let r = accepted _ (record_stands (drop l.loop-out.used l.args.s.now)) (read c.before.before.before.before.before.before) in
    omega (arith, r.till, r.within, length-drop l.loop-out.used l.args.s.now)

loop-again : tie.Need-loop-out-preserved invariant-loop decreases-loop
loop-again c =
    let k = c in
    let l = k in
    let a = l.args in
    let s = a.s.now in
    let rest = drop l.loop-out.used s in
    let r = accepted _ (record_stands rest) (read c.before.before.before.before.before.before) in
    let g = turn a.last s l.loop-out.place l.loop-out.records l.loop-out.invariant.0 k.loop-out-test.true (whole_ready a.last rest (read c.before.before.before.before.before.before)) (read c.before.before.before.before.before.before) (short-line c.before.before.before.before.before.before) c.put_record-written.ensures in
    (rw (c.wrapping_add_u64-place.ensures, c.wrapping_add_u64-records.ensures) g, omega (arith, r.within, length-drop l.loop-out.used s), c.wrapping_add_u64-place.type_inv)

returns : tie.Need-returns-in-Cut invariant-loop decreases-loop
unfolding waits is_cut
returns c =
    let l = c in
    let a = l.args in
    let rest = drop l.loop-out.used a.s.now in
    let w : waits a.last rest ≡ true = rw (part_from a.s.now l.loop-out.used) at (sym (heard may_change c.in-Cut.is c.read_front.ensures.waiting)) in
    rw c.answer.ensures
    (goes_out l.loop-out.place l.loop-out.records (window_waits a.last (length l.loop-out.out - l.loop-out.written) rest l.loop-out.place l.loop-out.records (pauses_cut a.last rest w)) l.loop-out.invariant.0)

returns-2 : tie.Need-returns-then-part-eq0 invariant-loop decreases-loop
returns-2 c =
    let l = c in
    let a = l.args in
    let rest = drop l.loop-out.used a.s.now in
    let none : length rest ≡ 0 = rw (part_from a.s.now l.loop-out.used) at c.if-part-eq0.true in
    rw c.answer-then-part-eq0.ensures
    (goes_out l.loop-out.place l.loop-out.records (window_waits a.last (length l.loop-out.out - l.loop-out.written) rest l.loop-out.place l.loop-out.records (pauses_none a.last rest (omega arith))) l.loop-out.invariant.0)

returns-3 : tie.Need-returns-in-Refused invariant-loop decreases-loop
unfolding waits is_cut
returns-3 c =
    let k = c in
    let l = k in
    let a = l.args in
    let s = a.s.now in
    let rest = drop l.loop-out.used s in
    let p = k.read_front.ensures in
    let w : waits a.last rest ≡ false = rw (part_from s l.loop-out.used) at (sym (heard may_change k.in-Refused.is p.waiting)) in
    let full = rw (part_from s l.loop-out.used) at c.if-part-eq0.false in
    let some : 0 < length rest = omega arith in
    let e : refused k.in-Refused.f ≡ record_of rest = rw (part_from s l.loop-out.used) at (heard says_front k.in-Refused.is p.answer) in
    let f = c.in-Refused.known_told-in-Refused-1-own.given.0.1.1 in
    let h = refusal_short l.loop-out.place k.in-Refused.f l.loop-out.invariant.2 f.0.1 f.1.1.0.1 in
    rw c.answer-in-Refused.ensures (wrong a.last s l.loop-out.place l.loop-out.records l.loop-out.invariant.0 k.loop-out-test.true (pauses_not a.last rest some w) e h (first (omega (arith, k.loop-out-test.true)) c.put_refusal-written.ensures))

returns-4 : tie.Need-returns invariant-loop decreases-loop
returns-4 c =
    let l = c in
    let a = l.args in
    rw c.answer-2.ensures
    (goes_out l.loop-out.place l.loop-out.records (window_full a.last (length l.loop-out.out - l.loop-out.written) (drop l.loop-out.used a.s.now) l.loop-out.place l.loop-out.records c.loop-out-test.false) l.loop-out.invariant.0)

pub list_from_spec : {M : Type 1} → statement M
list_from_spec =
    tie.close
    (tie.spec
    invariant-loop
    decreases-loop
    loop-holds
    (λ c. search rules)
    (λ c. search rules)
    (λ c. search rules)
    (λ c. search rules)
    (λ c κs. search rules)
    (λ c. search rules)
    put-record-requires
    add-used
    (λ c κs. search rules)
    (λ c κs. search rules)
    loop-less
    loop-again
    (λ c. search rules)
    (λ c κs. search rules)
    (λ c. search rules)
    returns
    (λ c. search rules)
    (λ c κs. search rules)
    (λ c. search rules)
    returns-2
    (λ c κs. search rules)
    (λ c κs. search rules)
    (λ c. search rules)
    returns-3
    (λ c κs. search rules)
    (λ c. search rules)
    returns-4)
