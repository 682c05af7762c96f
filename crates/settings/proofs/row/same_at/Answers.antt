-- One more byte from the last on, until they differ or all agree.
-- Assumes nothing.
use Rattle.std.proofs.Common.{◌-◌, refl, arith}
use Rattle.settings.proofs.Rows.{bytes_same, same_bytes, from_before}
use Rattle.settings.proofs.row.same_at.Goals as goal

pub loop-i-preserved : goal.loop-i-preserved
loop-i-preserved c = from_before c.args.s.now c.args.key.now c.args.at c.loop-i.i c.loop-i.invariant c.if-s-at.false

pub returns-then-s-at : goal.returns-then-s-at
returns-then-s-at c = (λ e. cc, λ e. absurd (c.if-s-at.true (same_bytes c.args.s.now c.args.key.now c.args.at (c.loop-i.i - 1) e (omega arith))))

pub returns : goal.returns
returns c = (λ e. bytes_same c.args.s.now c.args.key.now c.args.at c.requires (λ k i. c.loop-i.invariant k (omega arith) i), λ e. refl)
