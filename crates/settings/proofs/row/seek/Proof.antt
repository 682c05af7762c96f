-- `settings::row::seek`: what is sought stands first among the entries from here on. Assumes nothing.
use Prim.Native.Nat.{◌-◌}
use native.Mathlib.Omega.{arith}
use Rattle.layout.proofs.laws.Numbers.{bytes_of}
use Rattle.settings.proofs.Rows.{not_both, Going, going, step, hit, miss, gone}
use borrow.Author.Rules.{rules}
use Rattle.settings.proofs.row.seek.Statement.{statement}
use Rattle.settings.proofs.row.seek.Tie as tie

abbrev invariant-loop : tie.invariant-loop-at
invariant-loop s upto key at₀ at = Going s upto key at

abbrev decreases-loop : tie.decreases-loop-at
decreases-loop s upto key at₀ at = upto - at

loop-holds : tie.Need-loop-at-init invariant-loop decreases-loop
loop-holds c =
    let a = c.args in
    let h = bytes_of a.s.now (λ i. (c.shared_slice_known-1.given i).fits) in
    going a.s.now h a.upto a.key.now c.requires

add-has-at : tie.Need-overflow_add-at invariant-loop decreases-loop
add-has-at c =
    let l = c in
    let a = l.args in
    let h = bytes_of a.s.now (λ i. (l.shared_slice_known-1.given i).fits) in
    let far = step a.s.now h a.upto a.key.now l.loop-at.invariant c.loop-at-test.true in
    omega (arith, far.0, far.1)

returns : tie.Need-returns-then-has_at invariant-loop decreases-loop
returns c =
    let l = c in
    let a = l.args in
    let h = bytes_of a.s.now (λ i. (l.shared_slice_known-1.given i).fits) in
    hit a.s.now h a.upto a.key.now l.loop-at.invariant c.loop-at-test.true (c.has_at.ensures.0 c.if-has_at.true)

end-of-requires : tie.Need-end_of-at-requires invariant-loop decreases-loop
end-of-requires c κs =
    let l = c in
    let a = l.args in
    let h = bytes_of a.s.now (λ i. (l.shared_slice_known-1.given i).fits) in
    (step a.s.now h a.upto a.key.now l.loop-at.invariant c.loop-at-test.true).2

loop-less : tie.Need-loop-at-smaller invariant-loop decreases-loop
loop-less c =
    let l = c in
    let a = l.args in
    let h = bytes_of a.s.now (λ i. (l.shared_slice_known-1.given i).fits) in
    let far = step a.s.now h a.upto a.key.now l.loop-at.invariant c.loop-at-test.true in
    omega (arith, far.0, far.1, c.end_of-at.ensures)

loop-again : tie.Need-loop-at-preserved invariant-loop decreases-loop
loop-again c =
    let l = c in
    let a = l.args in
    let h = bytes_of a.s.now (λ i. (l.shared_slice_known-1.given i).fits) in
    rw c.end_of-at.ensures
    (miss a.s.now h a.upto a.key.now l.loop-at.invariant c.loop-at-test.true (λ f. not_both (c.has_at.ensures.1 f) c.if-has_at.false))

returns-2 : tie.Need-returns invariant-loop decreases-loop
returns-2 c =
    let l = c in
    let a = l.args in
    let h = bytes_of a.s.now (λ i. (l.shared_slice_known-1.given i).fits) in
    gone a.s.now h a.upto a.key.now l.loop-at.invariant c.loop-at-test.false

pub seek_spec : {M : Type 1} → statement M
seek_spec = tie.close (tie.spec invariant-loop decreases-loop loop-holds add-has-at (λ c κs. search rules) returns end-of-requires loop-less loop-again returns-2)
