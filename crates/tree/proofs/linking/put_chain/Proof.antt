-- `tree::linking::put_chain`: the loop owes what is left of the chain, as far as there is room. Assumes nothing.
use Prim.Native.Nat.{◌-◌}
use native.Mathlib.Omega.{arith}
use borrow.Author.Rules.{rules}
use lib.ListN.{length}
use Rattle.layout.proofs.laws.Writing.{Owes, start, byte, end}
use Rattle.tree.specs.Links.{chain_in}
use Rattle.tree.proofs.laws.Chains.{chain_zero, chain_full, chain_turn}
use Rattle.tree.proofs.linking.put_chain.Statement.{statement}
use Rattle.tree.proofs.linking.put_chain.Tie as tie

abbrev invariant-loop : tie.invariant-loop-n
invariant-loop next from places₀ count n₀ k₀ places n k =
    Owes places n (chain_in (length places₀ - n) next k) places₀ count (chain_in (length places₀ - count) next from)

abbrev decreases-loop : tie.decreases-loop-n
decreases-loop next from places₀ count n₀ k₀ places n k = length places₀ - n

loop-holds : tie.Need-loop-n-init invariant-loop decreases-loop
loop-holds c = start

same_length : tie.Need-shape_of-places-then-k-eq0 invariant-loop decreases-loop
same_length c = c.loop-n.invariant.long

returns : tie.Need-returns-then-k-eq0 invariant-loop decreases-loop
returns c = end (chain_zero _ _ _ c.if-k-eq0.true) c.loop-n.invariant

mul-places : tie.Need-offset_bounds-places-n invariant-loop decreases-loop
mul-places c = search rules

slice-write-places : tie.Need-bounds-places-n invariant-loop decreases-loop
slice-write-places c = search rules

add-n : tie.Need-overflow_add-n invariant-loop decreases-loop
add-n c = search rules

link-of-requires : tie.Need-link_of-k-requires invariant-loop decreases-loop
link-of-requires c κs = search rules

loop-less : tie.Need-loop-n-smaller invariant-loop decreases-loop
loop-less c = omega (arith, c.loop-n.invariant.long, c.loop-n-test.true)

loop-again : tie.Need-loop-n-preserved invariant-loop decreases-loop
loop-again c =
    let a = c.args in
    let l = c.loop-n in
    rw c.link_of-k.ensures
    (byte
    (chain_turn l.n (length a.places.now) a.next.now l.k (omega (arith, l.invariant.long, c.loop-n-test.true)) c.if-k-eq0.false)
    l.invariant)

same-length-2 : tie.Need-shape_of-places invariant-loop decreases-loop
same-length-2 c = c.loop-n.invariant.long

returns-2 : tie.Need-returns invariant-loop decreases-loop
returns-2 c = end (chain_full _ _ _ _ (omega (arith, c.loop-n.invariant.long, c.loop-n-test.false))) c.loop-n.invariant

pub put_chain_spec : {M : Type 1} → statement M
put_chain_spec =
    tie.close
    (tie.spec
    invariant-loop
    decreases-loop
    loop-holds
    same_length
    returns
    mul-places
    slice-write-places
    add-n
    link-of-requires
    loop-less
    loop-again
    same-length-2
    returns-2)
