-- Each byte that is owed is the one that is read, since it was not written over.
use Rattle.std.proofs.Common.{◌≡◌, ◌+◌, ℕ, take, drop, arith, subst}
use Rattle.layout.specs.Written.{Put}
use Rattle.shots.proofs.Movings.{shifting_on, shifting_end}
use Rattle.shots.proofs.collection.shift.Goals as goal

pub loop-i-preserved : goal.loop-i-preserved
loop-i-preserved c = shifting_on c.loop-i.invariant c.requires.o_le_from c.requires.n_in_bounds c.loop-i-test.true

pub returns : goal.returns
returns c =
    let all : c.args.o + c.loop-i.i ≡ c.args.o + c.args.n = omega (arith, c.loop-i.invariant.within, c.loop-i-test.false) in
    subst (λ (at : ℕ). Put c.args.names.now c.args.o (take c.args.n (drop c.args.from c.args.names.now)) c.loop-i.names at) all
    (shifting_end c.loop-i.invariant c.requires.o_le_from c.requires.n_in_bounds c.loop-i-test.false)
