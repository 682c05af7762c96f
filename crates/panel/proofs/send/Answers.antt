-- Any other value is lent on as it is; a string is made tidy first, for which there is room. The test of the type is cited by what it says, not by its name,
-- so that an edit of it is refused for its meaning.
use Rattle.std.proofs.Common.{sym, refl, arith, length-take-le}
use Rattle.panel.proofs.Sending.{tidy_done, tidy_never, sent_as}
use Rattle.panel.proofs.send.Goals as goal

pub returns-in_err-n : goal.returns-in_err-n
returns-in_err-n c =
    let a = c.args in
    record { sends = λ v g. tidy_never a.code a.chosen.now v g (omega arith) refl c.in_err-n.ensures }

pub slice_bounds-text-end : goal.slice_bounds-text-end
slice_bounds-text-end c = (tidy_done c.args.code c.args.chosen.now c.requires.0 c.requires.1 c.in_ok-n.ensures).0

pub slice_bounds-command_with_data-end : goal.slice_bounds-command_with_data-end
slice_bounds-command_with_data-end c = sym (length-take-le _ _ (tidy_done c.args.code c.args.chosen.now c.requires.0 c.requires.1 c.in_ok-n.ensures).0)

pub returns : goal.returns
returns c =
    let a = c.args in
    record { sends = λ v g. sent_as c.command_of-c.ensures (tidy_done a.code a.chosen.now v g c.in_ok-n.ensures).1 c.command_with_data-2.ensures }
