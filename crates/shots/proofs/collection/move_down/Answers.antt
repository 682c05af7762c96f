-- List by list; the live objects are no more than the marks.
use Rattle.std.proofs.Common.{◌≡◌, ◌≤◌, ◌++◌, List, ℕ, length, drop, replicate, arith, ap, subst, sym, ◌∙◌}
use Rattle.std.proofs.Math.Seq.{length-take-le}
use Rattle.shots.specs.Facts.{Fronted}
use Rattle.shots.proofs.Gatherings.{alive_in, filled, lowered}
use Rattle.shots.proofs.collection.move_down.Goals as goal

pub slice_bounds-fill-end : goal.slice_bounds-fill-end
slice_bounds-fill-end c = omega (arith, alive_in c.requires.fit, c.requires.n_value, c.requires.fit.few, c.requires.fit.flagged)

pub slice_bounds-fill-end-2 : goal.slice_bounds-fill-end-2
slice_bounds-fill-end-2 c =
    sym (length-take-le c.args.n c.args.marks.now (omega (arith, alive_in c.requires.fit, c.requires.n_value, c.requires.fit.few, c.requires.fit.flagged)))

pub returns : goal.returns
returns c =
    let fit = c.requires.fit in
    let within : c.args.n ≤ length c.args.marks.now = omega (arith, alive_in fit, c.requires.n_value, fit.few, fit.flagged) in
    let ones : c.fill.new.self ≡ replicate c.args.n 1 = c.fill.ensures.after (λ y e. e) ∙ ap (λ (k : ℕ). replicate k 1) (length-take-le c.args.n c.args.marks.now within) in
    let marks = subst (λ (ys : List ℕ). Fronted (replicate c.args.n 1) c.args.marks.now (ys ++ drop c.args.n c.args.marks.now) c.args.n) (sym ones) (filled c.args.marks.now c.args.n within) in
    lowered fit c.requires.n_value c.keep_handles.ensures c.keep_places.ensures c.keep_names.ensures c.keep_ends.ensures marks
