-- `wire::given::units_paired`: one unit more, that follows the one before it or does not. Assumes nothing.
use mathlib.Core.Path.{sym, ◌∙◌}
use native.Mathlib.Omega.{arith}
use Rattle.wire.proofs.Texts.{list_no, list_on, list_end}
use Rattle.wire.proofs.given.units_paired.Goals as goal

pub returns-then-not-follows : goal.returns-then-not-follows
returns-then-not-follows c =
    let l = c.loop-unit in
    list_no l.last c.from-u.result c.args.units.now l.unit-index (omega arith) c.from-u.ensures (sym c.follows.ensures ∙ c.if-not-follows.true) ∙ l.invariant

pub loop-unit-preserved : goal.loop-unit-preserved
loop-unit-preserved c =
    let l = c.loop-unit in
    list_on l.last c.from-u.result c.args.units.now l.unit-index (omega arith) c.from-u.ensures (sym c.follows.ensures ∙ c.if-not-follows.false) ∙ l.invariant

pub returns : goal.returns
returns c = list_end c.loop-unit.last c.args.units.now c.loop-unit.unit-index (omega arith) ∙ c.loop-unit.invariant
