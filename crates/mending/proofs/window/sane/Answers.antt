-- `mending::window::sane`: the tests in their order. Assumes nothing.
use Rattle.std.proofs.Common.{sym, arith, rules}
use Rattle.mending.proofs.Sweeping.{sane_long, sane_over, sane_by}
use Rattle.mending.proofs.window.sane.Goals as goal

pub returns-then-t-n : goal.returns-then-t-n
returns-then-t-n c = let a = c.args in sym (sane_long a.t a.n (omega (arith, c.if-t-n.true)))

pub returns-then-t : goal.returns-then-t
returns-then-t c = let a = c.args in sym (sane_over a.t a.n (omega (arith, c.if-t.true)))

pub returns-then-t-2 : goal.returns-then-t-2
returns-then-t-2 c = let a = c.args in sym (sane_over a.t a.n (omega (arith, c.if-t-2.true)))

pub returns : goal.returns
returns c =
    let a = c.args in
    sym (sane_by a.t a.n (omega (arith, c.if-t-n.false)) (omega (arith, c.if-t-2.false, c.if-t.false)))
