-- `tree::queue::walk_ruled`: the queue grows at each turn by the chain of one place. Assumes nothing.
use mathlib.Core.Path.{◌∙◌}
use Prim.Native.Nat.{◌-◌, ◌≤◌, ◌<◌}
use native.Mathlib.Omega.{arith}
use borrow.Author.Rules.{rules}
use lib.ListN.{length, get_or, length-set}
use Rattle.tree.specs.Table.{live}
use Rattle.tree.proofs.Scans.{Walking, walking_start, walking_turn, walking_end}
use Rattle.tree.proofs.laws.Chains.{chain_kids}
use Rattle.tree.proofs.laws.Queued.{queue_place, queue_fits, queue_long, queue_room}
use Rattle.tree.proofs.queue.walk_ruled.Statement.{statement}
use Rattle.tree.proofs.queue.walk_ruled.Tie as tie

abbrev invariant-loop : tie.invariant-loop-i
invariant-loop parents marks first next places₀ count₀ i₀ places count i = Walking parents (live marks) places₀ places count i × (length parents ≤ length places₀)

abbrev decreases-loop : tie.decreases-loop-i
decreases-loop parents marks first next places₀ count₀ i₀ places count i = length parents - i

slice-write-places : tie.Need-bounds-places-0 invariant-loop decreases-loop
slice-write-places c = omega (arith, c.requires.0.some)

loop-holds : tie.Need-loop-i-init invariant-loop decreases-loop
loop-holds c =
    let b = c in
    let a = b.args in
    let rule = b.requires.0 in
    let long = length-set a.places.now 0 0 in
    (walking_start a.parents.now rule _ b.requires.1.0 a.places.now (omega (arith, rule.some)), omega arith)

-- in a turn: the place whose turn it is is one, and the queue fits
in-turn : (c : tie.In-loop-i invariant-loop decreases-loop) →
    let b = c in
    let l = c.loop-i in
    (get_or l.places l.i 0 < length b.args.parents.now) × (l.count ≤ length b.args.parents.now) × (length b.args.parents.now ≤ length l.places) × (length b.args.parents.now ≤ 1024)
in-turn c =
    let b = c in
    let l = c.loop-i in
    let q = l.invariant.0.queue in
    let root = b.requires.1.0.root in
    let long = queue_long _ b.requires.0 _ b.requires.1.0 root q l.invariant.1 in
    (queue_place _ b.requires.0 _ b.requires.1.0 root q c.loop-i-test.true, queue_fits _ b.requires.0 _ b.requires.1.0 root q, omega (arith, l.invariant.1), b.requires.0.few)

mul-p : tie.Need-offset_bounds-places-i invariant-loop decreases-loop
mul-p c = let t = in-turn c in omega (arith, c.loop-i-test.true)

slice-read-p : tie.Need-bounds-places-i invariant-loop decreases-loop
slice-read-p c = let t = in-turn c.before in omega (arith, c.loop-i-test.true)

cast-p : tie.Need-overflow_cast-p invariant-loop decreases-loop
cast-p c = let t = in-turn c.before in omega arith

mul-put-chain : tie.Need-offset_bounds-first-p invariant-loop decreases-loop
mul-put-chain c = let t = in-turn c.before in omega arith

shared-slice-read-put-chain : tie.Need-bounds-first-p invariant-loop decreases-loop
shared-slice-read-put-chain c = let t = in-turn c.before.before in omega (arith, c.requires.1.1.0.firsts)

put-chain-requires : tie.Need-put_chain-count-requires invariant-loop decreases-loop
put-chain-requires c κs = search rules

add-i : tie.Need-overflow_add-i invariant-loop decreases-loop
add-i c = let t = in-turn c.before.before.before.before.before.before in omega (arith, c.loop-i-test.true)

loop-less : tie.Need-loop-i-smaller invariant-loop decreases-loop
loop-less c = let t = in-turn c.before.before.before.before.before.before in omega (arith, c.loop-i-test.true)

loop-again : tie.Need-loop-i-preserved invariant-loop decreases-loop
loop-again c =
    let e = c in
    let l = e.loop-i in
    let b = e in
    let rule = b.requires.0 in
    let marks = b.requires.1.0 in
    let more = e.loop-i-test.true in
    let room = queue_room _ rule _ marks marks.root l.invariant.0.queue more in
    let t = in-turn c.before.before.before.before.before.before in
    let chain = chain_kids b.requires.1.1.0 (get_or l.places l.i 0) rule (length l.places - l.count) (omega arith) in
    (walking_turn _ rule _ marks l.invariant.0 more l.invariant.1 (rw chain at c.put_chain-count.ensures), l.invariant.1)

same_length : tie.Need-shape_of-places invariant-loop decreases-loop
same_length c =
    let b = c in
    queue_long _ b.requires.0 _ b.requires.1.0 b.requires.1.0.root c.loop-i.invariant.0.queue c.loop-i.invariant.1 ∙ length-set b.args.places.now 0 0

returns : tie.Need-returns invariant-loop decreases-loop
returns c =
    let b = c in
    walking_end _ b.requires.0 _ b.requires.1.0 c.loop-i.invariant.0 c.loop-i-test.false

pub walk_ruled_spec : {M : Type 1} → statement M
walk_ruled_spec =
    tie.close
    (tie.spec
    invariant-loop
    decreases-loop
    slice-write-places
    loop-holds
    mul-p
    slice-read-p
    cast-p
    mul-put-chain
    shared-slice-read-put-chain
    put-chain-requires
    add-i
    loop-less
    loop-again
    same_length
    returns)
