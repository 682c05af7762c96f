-- Whatever was answered, it is the recording's refusal or 9.
use Rattle.std.proofs.lemmas.Result.{err_from_is_err_and}
use Rattle.std.proofs.Common.{ap, ◌∙◌}
use Rattle.layout.specs.Answer.{refused}
use Rattle.abi.proofs.Copying.{or_room, without_room}
use Rattle.abi.proofs.copied.refuse_copy.Goals as goal

pub returns-in_err-copy_records : goal.returns-in_err-copy_records
returns-in_err-copy_records c =
    let p = err_from_is_err_and c.from_residual.result c.from_residual.ensures.1 in
    rw (p.1, p.2) (ap or_room c.in_err-copy_records.ensures.answers ∙ without_room c.args.s.now _)

pub returns : goal.returns
returns c = ap refused c.plain.ensures ∙ ap or_room c.in_ok-copy_records.ensures.answers ∙ without_room c.args.s.now _
