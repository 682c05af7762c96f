-- `shots::addition::last_end`: the end before, if there is one. Assumes nothing.
use mathlib.Core.Path.{◌≡◌, ap}
use mathlib.Core.Path.{sym}
use Prim.Native.Nat.{ℕ, suc, ◌-◌}
use native.Mathlib.Omega.{arith}
use borrow.Author.Rules.{rules}
use Rattle.tree.specs.Table.{start_of}
use Rattle.shots.proofs.addition.last_end.Statement.{statement}
use Rattle.shots.proofs.addition.last_end.Tie as tie

sub-result : tie.Need-overflow_sub-result
sub-result c = search rules

mul-result : tie.Need-offset_bounds-ends-n
mul-result c = search rules

shared-slice-read-result : tie.Need-bounds-ends-n
shared-slice-read-result c = search rules

cast-result : tie.Need-overflow_cast-result
cast-result c = omega (arith, c.shared_slice_known-1.given (c.args.n - 1))

returns : tie.Need-returns-then-n-eq0
returns c =
    let z : c.args.n ≡ 0 = c.if-n-eq0.true in
    rw z

returns-2 : tie.Need-returns-else-n-eq0
returns-2 c =
    let a = c.args in
    let z : a.n ≡ suc (a.n - 1) = omega (arith, c.if-n-eq0.false) in
    sym (ap (λ (k : ℕ). start_of a.ends.now k) z)

pub last_end_spec : {M : Type 1} → statement M
last_end_spec =
    tie.close
    (tie.spec sub-result mul-result shared-slice-read-result cast-result returns returns-2)
