-- 19, 9, or neither.
use mathlib.Core.Path.{sym, ◌∙◌}
use native.Mathlib.Omega.{arith}
use Rattle.shots.proofs.Replies.{spare_taken, spare_short, spare_fits}
use Rattle.shots.proofs.addition.check_room.Goals as goal

pub returns-then-living-eq1024 : goal.returns-then-living-eq1024
returns-then-living-eq1024 c = spare_taken c.args.marks.now c.args.ends.now c.args.names.now c.args.size (sym c.living.ensures ∙ c.if-living-eq1024.true) c.plain.ensures

pub returns-then-spare-size : goal.returns-then-spare-size
returns-then-spare-size c = spare_short c.args.marks.now c.args.ends.now c.args.names.now c.args.size (λ q. c.if-living-eq1024.false (c.living.ensures ∙ q)) (omega (arith, c.spare.ensures, c.if-spare-size.true)) c.plain-then-spare-size.ensures

pub returns : goal.returns
returns c = spare_fits c.args.marks.now c.args.ends.now c.args.names.now c.args.size (λ q. c.if-living-eq1024.false (c.living.ensures ∙ q)) (omega (arith, c.spare.ensures, c.if-spare-size.false))
