-- `wire::container::write_command`: too many, or a container with the parameters. Assumes nothing.
use mathlib.Core.Path.{sym}
use native.Mathlib.Omega.{arith}
use Rattle.std.proofs.Common.{length-take-le}
use Rattle.layout.proofs.laws.Stored.{put_whole}
use Rattle.layout.proofs.laws.Writing.{refusal, long}
use Rattle.wire.proofs.laws.Contained.{params_long, said_count, said_command}
use Rattle.wire.proofs.container.write_command.Goals as goal

pub returns-then-count-gt5 : goal.returns-then-count-gt5
returns-then-count-gt5 c = rw c.plain.ensures (refusal (said_count c.args.c c.args.number c.if-count-gt5.true))

pub slice_bounds-payload-end : goal.slice_bounds-payload-end
slice_bounds-payload-end c =
    let a = c.args.c in
    let p = c.put_params-n.ensures in
    omega (arith, p.place, long p, params_long a.count a.params, c.if-count-gt5.false)

pub slice_bounds-write_container-end : goal.slice_bounds-write_container-end
slice_bounds-write_container-end c =
    let a = c.args.c in
    let p = c.put_params-n.ensures in
    sym (length-take-le _ _ (omega (arith, p.place, long p, params_long a.count a.params, c.if-count-gt5.false)))

pub returns : goal.returns
returns c =
    let a = c.args in
    let whole = put_whole c.put_params-n.ensures (omega (arith, params_long a.c.count a.c.params, c.if-count-gt5.false)) in
    rw (said_command a.c a.number c.if-count-gt5.false, ← whole) c.write_container.ensures
