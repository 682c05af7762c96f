use Rattle.std.proofs.Common.{arith}
use Rattle.network.proofs.SeenLoop.{container_seen}
use Rattle.network.proofs.see.see_containers.Goals as goal

pub loop-at-smaller : goal.loop-at-smaller
loop-at-smaller c =
    let p = container_seen c.loop-at.invariant c.loop-at-test.true c.in_ok-x.ensures in
    omega (arith, p.0, p.1.inside)
