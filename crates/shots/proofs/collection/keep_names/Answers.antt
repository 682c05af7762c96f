-- A live name is moved down, any other is passed over.
use Rattle.std.proofs.Common.{get_or, arith}
use Rattle.std.proofs.lemmas.Bool.{lt-ltb, le-ltb}
use Rattle.shots.proofs.Movings.{naming_hit, naming_skip, naming_end}
use Rattle.shots.proofs.collection.keep_names.Goals as goal
use Rattle.shots.proofs.collection.keep_names.Goals.{then-mark-ne0, else-mark-ne0}

pub loop-k-preserved : goal.loop-k-preserved
loop-k-preserved c =
    let l = c.loop-k in
    let more = c.loop-k-test.true in
    let up = c.requires.spaced.risen.rises l.k more in
    let within = c.requires.spaced.inside l.k more in
    let m = get_or c.args.marks.now l.k 0 in
    elim c.if-mark-ne0.branch [
      | then-mark-ne0 w ↦ rw (w.names-is, w.o-is, w.from-is) (naming_hit l.invariant c.requires.marks_in_bounds more up within (lt-ltb 0 m (omega (arith, w.if-mark-ne0.true))) w.shift-o.ensures)
      | else-mark-ne0 w ↦ rw (w.names-is, w.o-is, w.from-is) (naming_skip l.invariant c.requires.marks_in_bounds more up within (le-ltb 0 m (omega (arith, w.if-mark-ne0.false))))
    ]

pub returns : goal.returns
returns c = naming_end c.loop-k.invariant c.requires.marks_in_bounds c.requires.spaced c.loop-k-test.false
