-- A turn of the loop, and its ends.
-- Assumes nothing.
use Rattle.std.proofs.Common.{◌≡◌, ◌+◌, ◌-◌, ◌*◌, refl, sym, ap, ◌∙◌, eqb, ◌||◌, true, drop, arith}
use Rattle.layout.specs.Answer.{pick}
use Rattle.layout.specs.Bytes.{cells}
use Rattle.panel.specs.Words.{is_in}
use Rattle.panel.proofs.Scanning.{met, all_met}
use Rattle.panel.proofs.scan.has_word.Goals as goal

pub loop-i-init : goal.loop-i-init
loop-i-init c =
    let e : c.args.at + 0 * c.args.w ≡ c.args.at = omega arith in
    let m : c.args.n - 0 ≡ c.args.n = omega arith in
    rw (m, e)

pub loop-i-preserved : goal.loop-i-preserved
loop-i-preserved c =
    let f = c.word.ensures in
    rw f (met c.args.s.now c.args.at c.args.n c.loop-i.i c.args.w c.args.x c.loop-i.found c.loop-i-test.true ∙ c.loop-i.invariant)

pub returns : goal.returns
returns c = sym (all_met (drop (c.args.at + c.loop-i.i * c.args.w) c.args.s.now) (c.args.n - c.loop-i.i) c.args.w c.args.x c.loop-i.found (omega arith)) ∙ c.loop-i.invariant
