-- `session::call::param`: the parameter, or 0 past the last. Assumes nothing.
use Rattle.std.proofs.Common.{sym, rules}
use lib.ListN.{get_or-eq_default}
use Rattle.session.proofs.call.param.Statement.{statement}
use Rattle.session.proofs.call.param.Tie as tie

pub param_spec : {M : Type 1} → statement M
param_spec = tie.close (tie.spec (λ c. search rules) (λ c. search rules) (λ c. search rules) (λ c. sym (get_or-eq_default c.args.params.now 0 c.if-i-params.false)))
