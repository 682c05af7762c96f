-- `shots::addition::append`: along the chain stands a child of the parent; the last has none behind it. Assumes nothing.
use mathlib.Core.Bool.{true}
use mathlib.Core.Path.{◌≡◌}
use Prim.Native.Nat.{ℕ, ◌-◌, ◌<◌}
use native.Mathlib.Omega.{arith}
use borrow.Author.Rules.{rules}
use lib.ListN.{length, get_or}
use Rattle.tree.specs.Links.{Child}
use Rattle.tree.specs.Table.{live}
use Rattle.shots.specs.Facts.{only, last}
use Rattle.shots.proofs.Appending.{child_first, child_next}
use Rattle.shots.proofs.addition.append.Statement.{statement}
use Rattle.shots.proofs.addition.append.Tie as tie

abbrev invariant-loop : tie.invariant-loop-k
invariant-loop parents marks first next parent place p k₀ k = Child parents (live marks) parent 1 k

abbrev decreases-loop : tie.decreases-loop-k
decreases-loop parents marks first next parent place p k₀ k = length parents - k

-- a live place is one
small : (b : tie.Start invariant-loop decreases-loop) (k : ℕ) → live b.args.marks.now k ≡ true → k < 1024
small b k e = let h = b.requires.1.0.place k e in omega (arith, b.requires.0.few)

-- along the chain to the next sibling
turn : (c : tie.After-slice_known-in-loop-k-2-1 invariant-loop decreases-loop) →
    let a = c.args in
    let k = c.loop-k.k in
    Child a.parents.now (live a.marks.now) a.parent 1 (get_or a.next.now k 0) × (k < get_or a.next.now k 0)
turn c =
    let b = c in
    child_next b.requires.1.1.0 b.requires.1.1.1.0 c.loop-k.invariant c.loop-k-test.true

mul-k : tie.Need-offset_bounds-first-p invariant-loop decreases-loop
mul-k c = let b = c in let h = small c b.args.parent b.requires.1.1.1.0 in omega arith

slice-read-k : tie.Need-bounds-first-p invariant-loop decreases-loop
slice-read-k c = let b = c in let h = small c.before b.args.parent b.requires.1.1.1.0 in omega (arith, b.requires.1.1.0.firsts)

cast-k : tie.Need-overflow_cast-k invariant-loop decreases-loop
cast-k c = omega (arith, c.slice_known-1.given c.args.parent)

cast-first : tie.Need-overflow_cast-first invariant-loop decreases-loop
cast-first c = omega (arith, c.requires.1.1.1.1)

mul-first : tie.Need-offset_bounds-first-p-then-k-eq0 invariant-loop decreases-loop
mul-first c = let b = c in let h = small c.before.before b.args.parent b.requires.1.1.1.0 in omega arith

slice-write-first : tie.Need-bounds-first-p-then-k-eq0 invariant-loop decreases-loop
slice-write-first c = let b = c in let h = small c.before.before b.args.parent b.requires.1.1.1.0 in omega (arith, b.requires.1.1.0.firsts)

same_length : tie.Need-shape_of-first-then-k-eq0 invariant-loop decreases-loop
same_length c = search rules

returns : tie.Need-returns-then-k-eq0 invariant-loop decreases-loop
returns c = only c.if-k-eq0.true

loop-holds : tie.Need-loop-k-init invariant-loop decreases-loop
loop-holds c = let b = c in child_first b.requires.1.1.0 b.requires.1.1.1.0 c.if-k-eq0.false

mul-if2 : tie.Need-offset_bounds-next-k invariant-loop decreases-loop
mul-if2 c = let b = c in let l = c.loop-k in let h = small c.before.before.before l.k l.invariant.living in omega arith

slice-read-if2 : tie.Need-bounds-next-k invariant-loop decreases-loop
slice-read-if2 c = let b = c in let l = c.loop-k in let h = small c.before.before.before.before l.k l.invariant.living in omega (arith, b.requires.1.1.0.nexts)

mul-k-2 : tie.Need-offset_bounds-next-k-in-loop-k invariant-loop decreases-loop
mul-k-2 c = let b = c in let l = c.loop-k in let h = small c.before.before.before.before.before l.k l.invariant.living in omega arith

slice-read-k-2 : tie.Need-bounds-next-k-in-loop-k invariant-loop decreases-loop
slice-read-k-2 c = let b = c in let l = c.loop-k in let h = small c.before.before.before.before.before.before l.k l.invariant.living in omega (arith, b.requires.1.1.0.nexts)

cast-k-2 : tie.Need-overflow_cast-k-in-loop-k invariant-loop decreases-loop
cast-k-2 c = omega (arith, c.slice_known-in-loop-k-2-1.given c.loop-k.k)

loop-less : tie.Need-loop-k-smaller invariant-loop decreases-loop
loop-less c = let r = turn c in let h = c.requires.1.0.place _ r.0.living in omega (arith, r.1)

loop-again : tie.Need-loop-k-preserved invariant-loop decreases-loop
loop-again c = (turn c).0

cast-next : tie.Need-overflow_cast-next invariant-loop decreases-loop
cast-next c = omega (arith, c.requires.1.1.1.1)

mul_next : tie.Need-offset_bounds-next-k-2 invariant-loop decreases-loop
mul_next c = let b = c in let l = c.loop-k in let h = small c.before.before.before.before.before l.k l.invariant.living in omega arith

slice-write-next : tie.Need-bounds-next-k-2 invariant-loop decreases-loop
slice-write-next c = let b = c in let l = c.loop-k in let h = small c.before.before.before.before.before l.k l.invariant.living in omega (arith, b.requires.1.1.0.nexts)

same-length-2 : tie.Need-shape_of-next invariant-loop decreases-loop
same-length-2 c = search rules

returns-2 : tie.Need-returns invariant-loop decreases-loop
returns-2 c = last c.loop-k.invariant c.loop-k-test.false

pub append_spec : {M : Type 1} → statement M
append_spec =
    tie.close
    (tie.spec
    invariant-loop
    decreases-loop
    mul-k
    slice-read-k
    cast-k
    cast-first
    mul-first
    slice-write-first
    same_length
    returns
    loop-holds
    mul-if2
    slice-read-if2
    mul-k-2
    slice-read-k-2
    cast-k-2
    loop-less
    loop-again
    cast-next
    mul_next
    slice-write-next
    same-length-2
    returns-2)
