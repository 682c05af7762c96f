-- `tree::every::again`: what lies before the place is as it was. Assumes nothing.
use Rattle.std.proofs.Common.{◌≡◌, arith}
use Rattle.tree.proofs.Copied.{begun, one_more, all}
use Rattle.tree.proofs.every.again.Goals as goal

pub loop-i-init : goal.loop-i-init
loop-i-init c = begun _ _ _ _ c.requires.n_bound c.requires.n_in_bounds

pub loop-i-preserved : goal.loop-i-preserved
loop-i-preserved c = one_more _ _ _ _ c.requires.n_bound c.requires.n_in_bounds c.loop-i.invariant (omega arith)

pub returns : goal.returns
returns c =
    let last : c.loop-i.i ≡ c.args.n = omega arith in
    rw last at (all _ _ _ _ c.requires.n_bound c.requires.n_in_bounds c.loop-i.invariant (omega arith))
