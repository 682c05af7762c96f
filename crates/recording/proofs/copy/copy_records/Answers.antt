-- `recording::copy::copy_records`: the refusal, or the copy of records that are all accepted. Assumes nothing.
use mathlib.Core.Path.{sym, ap, ◌∙◌}
use Rattle.std.proofs.lemmas.Result.{err_from_is_err_and}
use Rattle.layout.specs.Answer.{got}
use Rattle.layout.proofs.laws.Accepted.{accepted}
use Rattle.layout.proofs.laws.Reading.{heard}
use Rattle.recording.specs.Copied.{says_stop}
use Rattle.recording.proofs.Placed.{left_ends, copies_refused}
use Rattle.recording.proofs.copy.copy_records.Goals as goal

pub copy_swept-requires : goal.copy_swept-requires
copy_swept-requires c =
    let w = c.sweep-swept in
    let e = heard (says_stop w.result.left w.result.end) c.in_ok-swept.was w.ensures.whole in
    sym e ∙ ap (got w.result.left) (accepted _ (left_ends c.args.s.now) e)

pub returns-in_err-swept : goal.returns-in_err-swept
returns-in_err-swept c =
    let w = c.sweep-swept in
    let p = err_from_is_err_and c.from_residual.result c.from_residual.ensures.1 in
    rw (p.1, p.2) (copies_refused c.args.s.now c.args.out.now (heard (says_stop w.result.left w.result.end) c.in_err-swept.was w.ensures.whole))
