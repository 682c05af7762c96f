-- `shots::deletion::unlink`: along the chain stands a sibling before the place, and the one before it names it. Assumes nothing.
use mathlib.Core.Path.{◌≡◌}
use Prim.Native.Nat.{◌-◌, ◌<◌}
use native.Mathlib.Omega.{arith}
use borrow.Author.Rules.{rules}
use lib.ListN.{length, get_or}
use Rattle.tree.specs.Table.{live, parent}
use Rattle.shots.proofs.Falls.{Sibling, sibling_first, sibling_next, mend_first, mend_next}
use Rattle.shots.proofs.deletion.unlink.Statement.{statement}
use Rattle.shots.proofs.deletion.unlink.Tie as tie

abbrev invariant-loop : tie.invariant-loop-k
invariant-loop parents marks first next place p after k₀ k = Sibling parents (live marks) place k × (get_or first (parent parents place) 0 ≡ place → ⊥)

abbrev decreases-loop : tie.decreases-loop-k
decreases-loop parents marks first next place p after k₀ k = place - k

-- what is there before the chain: the place, its parent, and the lists
known : (b : tie.Start invariant-loop decreases-loop) →
    let a = b.args in
    let p = get_or a.parents.now a.place 0 in
    (a.place < length a.parents.now) × (p < a.place) × (a.place < 1024) × (length a.first.now ≡ 1024) × (length a.next.now ≡ 1024)
known b =
    let a = b.args in
    let l = b.requires.1.0.place a.place b.requires.1.1.1.1 in
    let u = b.requires.0.smaller a.place b.requires.1.1.1.0 l in
    (l, u, omega (arith, b.requires.0.few), b.requires.1.1.0.firsts, b.requires.1.1.0.nexts)

-- along the chain to the next sibling
turn : (c : tie.After-slice_known-in-loop-k-2-1 invariant-loop decreases-loop) →
    let a = c.args in
    let k = c.loop-k.k in
    Sibling a.parents.now (live a.marks.now) a.place (get_or a.next.now k 0) × (k < get_or a.next.now k 0)
turn c =
    let b = c in
    let l = c.loop-k in
    sibling_next b.requires.1.0 b.requires.1.1.0 b.requires.1.1.1.0 b.requires.1.1.1.1 l.invariant.0 c.loop-k-test.true

mul-p : tie.Need-offset_bounds-parents-place invariant-loop decreases-loop
mul-p c = let h = known c in omega (arith, h.2)

shared-slice-read-p : tie.Need-bounds-parents-place invariant-loop decreases-loop
shared-slice-read-p c = (known c.before).0

cast-p : tie.Need-overflow_cast-p invariant-loop decreases-loop
cast-p c = let h = known c.before in omega (arith, h.1, h.2)

mul-after : tie.Need-offset_bounds-next-place invariant-loop decreases-loop
mul-after c = let h = known c.before in omega (arith, h.2)

slice-read-after : tie.Need-bounds-next-place invariant-loop decreases-loop
slice-read-after c = let h = known c.before.before in omega (arith, h.2, h.4)

mul-k : tie.Need-offset_bounds-first-p invariant-loop decreases-loop
mul-k c = let h = known c.before.before in omega (arith, h.1, h.2)

slice-read-k : tie.Need-bounds-first-p invariant-loop decreases-loop
slice-read-k c = let h = known c.before.before.before in omega (arith, h.1, h.2, h.3)

cast-k : tie.Need-overflow_cast-k invariant-loop decreases-loop
cast-k c = omega (arith, c.slice_known-2-1.given (get_or c.args.parents.now c.args.place 0))

mul-first : tie.Need-offset_bounds-first-p-then-k-place invariant-loop decreases-loop
mul-first c = let h = known c.before.before.before.before in omega (arith, h.1, h.2)

slice-write-first : tie.Need-bounds-first-p-then-k-place invariant-loop decreases-loop
slice-write-first c = let h = known c.before.before.before.before in omega (arith, h.1, h.2, h.3)

same_length : tie.Need-shape_of-first-then-k-place invariant-loop decreases-loop
same_length c = search rules

returns : tie.Need-returns-then-k-place invariant-loop decreases-loop
returns c =
    let b = c in
    let h = known c.before.before.before.before in
    mend_first b.requires.1.0 b.requires.1.1.0 b.requires.1.1.1.0 b.requires.1.1.1.1 c.if-k-place.true (omega (arith, h.1, h.2, h.3))

loop-holds : tie.Need-loop-k-init invariant-loop decreases-loop
loop-holds c =
    let b = c in
    (sibling_first b.requires.1.0 b.requires.1.1.0 b.requires.1.1.1.0 b.requires.1.1.1.1 c.if-k-place.false, c.if-k-place.false)

mul-if2 : tie.Need-offset_bounds-next-k invariant-loop decreases-loop
mul-if2 c = let h = known c.before.before.before.before.before in omega (arith, h.2, c.loop-k.invariant.0.before)

slice-read-if2 : tie.Need-bounds-next-k invariant-loop decreases-loop
slice-read-if2 c = let h = known c.before.before.before.before.before.before in omega (arith, h.2, h.4, c.loop-k.invariant.0.before)

cast-if2 : tie.Need-overflow_cast-next invariant-loop decreases-loop
cast-if2 c = omega (arith, c.slice_known-in-loop-k-1.given c.loop-k.k)

mul-k-2 : tie.Need-offset_bounds-next-k-in-loop-k invariant-loop decreases-loop
mul-k-2 c = let h = known c.before.before.before.before.before.before.before in omega (arith, h.2, c.loop-k.invariant.0.before)

slice-read-k-2 : tie.Need-bounds-next-k-in-loop-k invariant-loop decreases-loop
slice-read-k-2 c = let h = known c.before.before.before.before.before.before.before.before in omega (arith, h.2, h.4, c.loop-k.invariant.0.before)

cast-k-2 : tie.Need-overflow_cast-k-in-loop-k invariant-loop decreases-loop
cast-k-2 c = omega (arith, c.slice_known-in-loop-k-2-1.given c.loop-k.k)

loop-less : tie.Need-loop-k-smaller invariant-loop decreases-loop
loop-less c =
    let r = turn c in
    omega (arith, r.0.before, r.1)

loop-again : tie.Need-loop-k-preserved invariant-loop decreases-loop
loop-again c = ((turn c).0, c.loop-k.invariant.1)

mul_next : tie.Need-offset_bounds-next-k-2 invariant-loop decreases-loop
mul_next c = let h = known c.before.before.before.before.before.before.before in omega (arith, h.2, c.loop-k.invariant.0.before)

slice-write-next : tie.Need-bounds-next-k-2 invariant-loop decreases-loop
slice-write-next c = let h = known c.before.before.before.before.before.before.before in omega (arith, h.2, h.4, c.loop-k.invariant.0.before)

same-length-2 : tie.Need-shape_of-next invariant-loop decreases-loop
same-length-2 c = search rules

returns-2 : tie.Need-returns invariant-loop decreases-loop
returns-2 c =
    let b = c in
    let l = c.loop-k in
    let h = known c.before.before.before.before.before.before.before in
    mend_next b.requires.1.0 b.requires.1.1.0 b.requires.1.1.1.0 b.requires.1.1.1.1 l.invariant.1 (omega (arith, h.2, h.4, l.invariant.0.before)) c.loop-k-test.false

pub unlink_spec : {M : Type 1} → statement M
unlink_spec =
    tie.close
    (tie.spec
    invariant-loop
    decreases-loop
    mul-p
    shared-slice-read-p
    cast-p
    mul-after
    slice-read-after
    mul-k
    slice-read-k
    cast-k
    mul-first
    slice-write-first
    same_length
    returns
    loop-holds
    mul-if2
    slice-read-if2
    cast-if2
    mul-k-2
    slice-read-k-2
    cast-k-2
    loop-less
    loop-again
    mul_next
    slice-write-next
    same-length-2
    returns-2)
