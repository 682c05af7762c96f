-- One place more, and at the end all of them.
use Rattle.std.proofs.Common.{◌≡◌, ℕ, arith, subst}
use Rattle.shots.specs.Facts.{Fronted}
use Rattle.shots.specs.Added.{up_from}
use Rattle.shots.proofs.Additions.{owning_on, owning_end}
use Rattle.shots.proofs.addition.own.Goals as goal

pub loop-k-preserved : goal.loop-k-preserved
loop-k-preserved c = owning_on c.loop-k.invariant c.loop-k-test.true

pub returns : goal.returns
returns c =
    let all : c.loop-k.k ≡ c.args.count = omega (arith, c.loop-k.invariant.within, c.loop-k-test.false) in
    subst (λ (n : ℕ). Fronted (up_from 0 c.args.count) c.args.news.now c.loop-k.news n) all (owning_end c.loop-k.invariant c.requires.count_in_bounds c.loop-k-test.false)
