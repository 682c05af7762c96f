-- `network::packet::head_size`: the sum of its fields. Assumes nothing.
use native.Mathlib.Omega.{arith}
use Rattle.network.proofs.PacketSizes.{phase_most, code_most, total_most}
use Rattle.network.proofs.packet.head_size.Goals as goal

pub overflow_add-result : goal.overflow_add-result
overflow_add-result c = omega (arith, phase_most c.args.kind)

pub overflow_add-result-2 : goal.overflow_add-result-2
overflow_add-result-2 c = omega (arith, phase_most c.args.kind, code_most c.args.kind)

pub overflow_add-result-3 : goal.overflow_add-result-3
overflow_add-result-3 c =
    omega (arith, phase_most c.args.kind, code_most c.args.kind, total_most c.args.kind)
