-- A live name's bytes are counted, any other is passed over.
use Rattle.std.proofs.Common.{◌-◌, ℕ, length, get_or, arith, ap}
use Rattle.std.proofs.lemmas.Bool.{lt-ltb, le-ltb}
use Rattle.shots.proofs.Additions.{sparing_hit, sparing_skip, sparing_end}
use Rattle.shots.proofs.addition.spare.Goals as goal
use Rattle.shots.proofs.addition.spare.Goals.{then-mark-ne0, else-mark-ne0}

pub loop-k-preserved : goal.loop-k-preserved
loop-k-preserved c =
    let l = c.loop-k in
    let more = c.loop-k-test.true in
    let up = c.requires.spaced.risen.rises l.k more in
    let within = c.requires.spaced.inside l.k more in
    let m = get_or c.args.marks.now l.k 0 in
    elim c.if-mark-ne0.branch [
      | then-mark-ne0 w ↦ rw (w.o-is, w.from-is) (sparing_hit l.invariant c.requires.marks_in_bounds more up within (lt-ltb 0 m (omega (arith, w.if-mark-ne0.true))))
      | else-mark-ne0 w ↦ rw (w.o-is, w.from-is) (sparing_skip l.invariant c.requires.marks_in_bounds more up within (le-ltb 0 m (omega (arith, w.if-mark-ne0.false))))
    ]

pub returns : goal.returns
returns c = let all = (sparing_end c.loop-k.invariant c.requires.marks_in_bounds c.requires.spaced c.loop-k-test.false).0 in ap (λ (x : ℕ). length c.args.names.now - x) all
