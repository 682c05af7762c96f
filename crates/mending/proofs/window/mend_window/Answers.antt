-- `mending::window::mend_window`: nothing of a tally that no recording has. Assumes nothing.
use Rattle.std.proofs.Common.{◌≡◌, false, length, sym, ◌∙◌, rules}
use Rattle.mending.specs.Mended.{least}
use Rattle.mending.specs.Window.{sane}
use Rattle.mending.proofs.Going.{rests_so, window_not, window_so}
use Rattle.mending.proofs.window.mend_window.Goals as goal

pub returns-then-not-sane : goal.returns-then-not-sane
returns-then-not-sane c =
    let a = c.args in
    let slots = least (length a.starts.now) (length a.lengths.now) in
    let e : sane a.from (length a.s.now) ≡ false = sym c.sane.ensures ∙ c.if-not-sane.true in
    rests_so a.from a.out.now a.starts.now a.lengths.now (window_not a.last (length a.out.now) slots a.s.now a.from e) c.answer.ensures

pub sweep-requires : goal.sweep-requires
sweep-requires c = sym c.sane.ensures ∙ c.if-not-sane.false

pub returns : goal.returns
returns c =
    let a = c.args in
    let slots = least (length a.starts.now) (length a.lengths.now) in
    rw (window_so a.last (length a.out.now) slots a.s.now a.from (sym c.sane.ensures ∙ c.if-not-sane.false)) c.sweep.ensures
