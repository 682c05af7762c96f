-- `wire::container::put_params`: one parameter more. Assumes nothing.
use mathlib.Core.Path.{◌≡◌, ◌∙◌}
use native.Mathlib.Omega.{arith}
use lib.ListN.{get_or}
use Rattle.std.proofs.lemmas.List.{get_or-take}
use Rattle.layout.specs.Bytes.{bytes}
use Rattle.layout.proofs.laws.Numbers.{length_bytes}
use Rattle.layout.proofs.laws.Stored.{more}
use Rattle.layout.proofs.laws.Writing.{nothing}
use Rattle.wire.specs.Container.{param_bytes}
use Rattle.wire.proofs.laws.Contained.{params_step, params_long}
use Rattle.wire.proofs.container.put_params.Goals as goal

pub loop-param-init : goal.loop-param-init
unfolding param_bytes
loop-param-init c = nothing

pub loop-param-preserved : goal.loop-param-preserved
loop-param-preserved c =
    let i = c.loop-param.param-index in
    let ps = c.args.params.now in
    let is : c.from.result ≡ get_or ps i 0 = c.from.ensures ∙ get_or-take c.args.count ps i 0 (omega arith) in
    let p = rw is at c.store-o.ensures in
    rw (params_step i ps) (more c.loop-param.invariant (bytes 4 (get_or ps i 0)) (omega (arith, length_bytes 4 (get_or ps i 0), params_long i ps)) p)
