-- `recording::copy::sweep`: a turn goes past one record and counts it. Assumes nothing.
use mathlib.Core.Path.{◌≡◌, refl, sym, ◌∙◌}
use Prim.Native.Nat.{ℕ}
use mathlib.Core.List.{List}
use native.Mathlib.Omega.{arith}
use lib.ListN.{take}
use Rattle.layout.specs.Answer.{got, means}
use Rattle.layout.proofs.laws.Accepted.{accepted}
use Rattle.recording.specs.Row.{row_from, row_of, whole_of}
use Rattle.recording.specs.Copied.{left_by, left_out}
use Rattle.recording.specs.declared.copy.Left.{Left}
use Rattle.recording.proofs.Placed.{whole_rest, whole_none, whole_got, whole_refused, counted_least, left_turn, left_refused, left_end}
use Rattle.recording.proofs.laws.Rowed.{record_placed}
use Rattle.recording.proofs.Copying.{front_more}
use Rattle.recording.proofs.copy.sweep.Invariants.{Going}
use Rattle.recording.proofs.copy.sweep.Goals as goal

pub loop-at-init : goal.loop-at-init
unfolding left_out left_by means row_of row_from whole_of
loop-at-init c = record { whole = refl; front = refl; rests = refl; fewer = omega arith; less = omega arith; within = omega arith }

pub count-left-requires : goal.count-left-requires
count-left-requires c =
    let p = accepted _ (record_placed c.args.s.now c.loop-at.at) c.in-Ok.ensures in
    (c.loop-at.invariant.fewer, omega (arith, p.till, p.within, c.loop-at.invariant.less))

pub loop-at-smaller : goal.loop-at-smaller
loop-at-smaller c =
    let p = accepted _ (record_placed c.args.s.now c.loop-at.at) c.in-Ok.ensures in
    omega (arith, p.till, p.within)

pub loop-at-preserved : goal.loop-at-preserved
loop-at-preserved c =
    let l = c.loop-at in
    let s = c.args.s.now in
    let g = l.invariant in
    let x = c.in-Ok.x in
    let e = c.in-Ok.ensures in
    let more = c.loop-at-test.true in
    let p = accepted _ (record_placed s l.at) e in
    let least = counted_least l.left x.kind x.body.count l.at g.fewer g.less in
    rw c.count-left.ensures
    (record {
      whole = sym (whole_got s l.at more e) ∙ g.whole;
      front = front_more s l.at l.left g.front e;
      rests = sym (left_turn s l.at l.left more e) ∙ g.rests;
      fewer = least.0;
      less = omega (arith, least.1, p.till);
      within = p.within;
    })

-- where the records end
found : {s : List ℕ} {at : ℕ} {l : Left} → Going s at l → whole_rest s at ≡ at → (at ≡ whole_of s) × (left_out (take (whole_of s) s) ≡ got l (whole_of s))
found {s} {at} {l} g e = let same : at ≡ whole_of s = sym e ∙ g.whole in (same, rw (← same) g.front)

pub returns-in-Err : goal.returns-in-Err
returns-in-Err c =
    let l = c.loop-at in
    let s = c.args.s.now in
    let more = c.loop-at-test.true in
    let e = c.in-Err.ensures in
    let is = found l.invariant (whole_refused s l.at more e) in
    record { end = is.0; front = is.1; whole = sym (left_refused s l.at l.left more e) ∙ l.invariant.rests }

pub returns : goal.returns
returns c =
    let l = c.loop-at in
    let s = c.args.s.now in
    let is = found l.invariant (whole_none s l.at c.loop-at-test.false) in
    record { end = is.0; front = is.1; whole = sym (left_end s l.at l.left c.loop-at-test.false) ∙ l.invariant.rests }
