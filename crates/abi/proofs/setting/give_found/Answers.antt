use Rattle.std.proofs.lemmas.Result.{err_from_is_err_and}
use Rattle.std.specs.Prelude.{Ok}
use Rattle.std.proofs.Common.{sym, ap, ◌∙◌}
use Rattle.abi.proofs.Kept.{found_none, found_refused}
use Rattle.abi.proofs.setting.give_found.Goals as goal

pub returns-in_err-x : goal.returns-in_err-x
returns-in_err-x c =
    let p = err_from_is_err_and c.from_residual.result c.from_residual.ensures.1 in
    rw (p.1, p.2) (found_refused (sym c.in_err-x.ensures))

pub returns-in_default : goal.returns-in_default
returns-in_default c = found_none (sym c.in_ok-x.ensures ∙ ap Ok c.in_default.is)
