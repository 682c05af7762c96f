-- `shots::deletion::may_end`: the root, a place that there is not, else by its mark. Assumes nothing.
use mathlib.Core.Bool.{Bool, true, false, not, ◌&&◌}
use mathlib.Core.Path.{◌≡◌, refl, sym}
use Prim.Native.Nat.{ℕ}
use native.Mathlib.Omega.{arith}
use borrow.Author.Rules.{rules}
use borrow.Author.Tests.{lt-ltb, le-ltb, ne_eqb}
use lib.Dec.{ltb, eqb}
use lib.ListN.{get_or, get_or-eq_default}
use Rattle.tree.proofs.laws.Counts.{equal}
use Rattle.shots.proofs.deletion.may_end.Statement.{statement}
use Rattle.shots.proofs.deletion.may_end.Tie as tie

off : (b : Bool) → (b && false) ≡ false
off true = refl
off false = refl

nonzero : (n : ℕ) → not (eqb n 0) ≡ ltb 0 n
nonzero n = equal n 0 (λ e. rw e) (λ e. rw (ne_eqb n 0 e, lt-ltb 0 n (omega arith)))

returns : tie.Need-returns-then-place-eq0
returns c = rw (le-ltb 0 c.args.place (omega arith))

returns-2 : tie.Need-returns-then-marks-place
returns-2 c =
    let a = c.args in
    let z : get_or a.marks.now a.place 0 ≡ 0 = get_or-eq_default a.marks.now 0 (omega (arith, c.if-marks-place.true)) in
    sym (rw z (off (ltb 0 a.place)))

shared-slice-read-result : tie.Need-bounds-marks-place
shared-slice-read-result c = search rules

returns-3 : tie.Need-returns
returns-3 c =
    let a = c.args in
    rw (lt-ltb 0 a.place (omega (arith, c.if-place-eq0.false))) (nonzero (get_or a.marks.now a.place 0))

pub may_end_spec : {M : Type 1} → statement M
may_end_spec = tie.close (tie.spec returns returns-2 shared-slice-read-result returns-3)
