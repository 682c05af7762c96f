-- `network::packet::packet_in`: four numbers, and where the rest stands. Assumes nothing.
use Prim.Native.Nat.{◌+◌}
use native.Mathlib.Omega.{arith}
use lib.ListN.{drop}
use Rattle.layout.proofs.laws.Reading.{at_most}
use Rattle.network.specs.Packet.{packet_in}
use Rattle.network.proofs.PacketSizes.{phase_most, code_most, total_most, number_of_width}
use Rattle.network.proofs.packet.packet_in.Goals as goal

pub overflow_cast-result : goal.overflow_cast-result
overflow_cast-result c =
    omega (arith, c.number_of.ensures.1, at_most {w = c.phase_size-p.result} 4 (omega (arith, phase_most c.args.kind)))

pub overflow_cast-result-2 : goal.overflow_cast-result-2
overflow_cast-result-2 c =
    omega (arith, c.number_of-2.ensures.1, at_most {w = c.code_size-c.result} 2 (omega (arith, code_most c.args.kind)))

pub returns : goal.returns
unfolding packet_in
returns c =
    let a = c.args in
    let p = c.phase_size-p.result in
    let q = c.code_size-c.result in
    let t = c.total_size-t.result in
    let phase = number_of_width p (drop (a.at + 8) a.s.now) (omega (arith, phase_most a.kind)) c.number_of.ensures.0 in
    let code = number_of_width q (drop (a.at + 8 + p) a.s.now) (omega (arith, code_most a.kind)) c.number_of-2.ensures.0 in
    let total = number_of_width t (drop (a.at + 12 + p + q) a.s.now) (omega (arith, total_most a.kind)) c.number_of-4.ensures.0 in
    cc
