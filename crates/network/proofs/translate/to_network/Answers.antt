use Rattle.std.proofs.lemmas.Result.{err_from_is_err_and}
use Rattle.layout.proofs.laws.Writing.{refusal}
use Rattle.network.proofs.TranslatedLaws.{to_refused}
use Rattle.network.proofs.translate.to_network.Goals as goal

pub returns-in_err-t : goal.returns-in_err-t
returns-in_err-t c =
    let p = err_from_is_err_and c.from_residual.result c.from_residual.ensures.1 in
    rw (p.1, p.2) (refusal (to_refused c.args.d c.args.s.now c.in_err-t.ensures.says))
