-- Room for two numbers first; then what the copy answers, with its counts.
use Rattle.std.proofs.Common.{refl, ap, ◌∙◌}
use Rattle.layout.proofs.laws.Writing.{wrote_so}
use Rattle.abi.specs.Answered.{word}
use Rattle.abi.proofs.Copying.{says_unroomed, says-copied, says_refused}
use Rattle.abi.proofs.copied.ptp_copy_recording.Goals as goal

pub returns-then-left-lt2 : goal.returns-then-left-lt2
returns-then-left-lt2 c = says_unroomed c.args.s.now c.args.out.now c.args.left.now c.if-left-lt2.true (c.told.ensures ∙ ap word c.refuse_copy.ensures)

pub returns-in-Ok : goal.returns-in-Ok
returns-in-Ok c =
    let room = c.if-left-lt2.false in
    says-copied c.args.s.now c.args.out.now c.args.left.now room c.in-Ok.ensures (wrote_so refl room c.give.ensures).1 c.told-in-Ok.ensures

pub returns-in-Err : goal.returns-in-Err
returns-in-Err c = says_refused c.args.s.now c.args.out.now c.args.left.now c.if-left-lt2.false c.in-Err.ensures c.told-in-Err.ensures
