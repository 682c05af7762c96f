-- A place behind ends where its parent is not live any more.
use Rattle.std.proofs.Common.{◌≡◌, ℕ, length, take, arith, subst}
use Rattle.layout.specs.Written.{Put}
use Rattle.shots.specs.Deleted.{ended_from}
use Rattle.shots.proofs.Endings.{ending_start, ending_zero, ending_stay, ending_end}
use Rattle.shots.proofs.deletion.fall.Goals as goal

pub loop-k-init : goal.loop-k-init
loop-k-init c = ending_start _ c.requires.ruled _ c.requires.parents_in_bounds c.requires.marks _ c.requires.place_nonzero c.requires.place_in_bounds

pub loop-k-preserved : goal.loop-k-preserved
loop-k-preserved c =
    let l = c.loop-k in
    let more = c.loop-k-test.true in
    let zero = ending_zero _ c.requires.ruled _ c.requires.parents_in_bounds c.requires.marks _ c.requires.place_nonzero c.requires.place_in_bounds l.invariant more in
    let stay = ending_stay _ c.requires.ruled _ c.requires.parents_in_bounds c.requires.marks _ c.requires.place_nonzero c.requires.place_in_bounds l.invariant more in
    grind (arith, zero, stay)

pub returns : goal.returns
returns c =
    let all : c.loop-k.k ≡ length c.args.parents.now = omega (arith, c.loop-k.invariant.within, c.loop-k-test.false) in
    subst (λ (n : ℕ). Put c.args.marks.now 0 (ended_from 0 c.args.parents.now c.args.place (take (length c.args.parents.now) c.args.marks.now)) c.loop-k.marks n) all
    (ending_end _ c.requires.ruled _ c.requires.parents_in_bounds c.requires.marks _ c.requires.place_nonzero c.requires.place_in_bounds c.loop-k.invariant c.loop-k-test.false)
