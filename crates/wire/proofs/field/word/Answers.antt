-- `wire::field::word`: one byte more, below those that it passed. Assumes nothing.
use mathlib.Core.Path.{◌≡◌}
use Prim.Native.Nat.{◌-◌, ◌+◌}
use native.Mathlib.Omega.{arith}
use Rattle.layout.specs.Bytes.{number}
use Rattle.layout.proofs.laws.Reading.{number_turn, below_next, at_most}
use Rattle.wire.proofs.field.word.Goals as goal

pub loop-k-init : goal.loop-k-init
unfolding number
loop-k-init c =
    let none : c.args.w - c.args.w ≡ 0 = omega arith in
    rw none (omega arith)

pub overflow_mul-v : goal.overflow_mul-v
overflow_mul-v c = omega (arith, at_most {w = c.args.w - c.loop-k.k} 7 (omega arith))

pub overflow_add-v : goal.overflow_add-v
overflow_add-v c = omega (arith, at_most {w = c.args.w - c.loop-k.k} 7 (omega arith), c.type_inv.s (c.args.at + (c.loop-k.k - 1)))

pub loop-k-preserved : goal.loop-k-preserved
loop-k-preserved c =
    let a = c.args in
    let l = c.loop-k in (
      number_turn a.s.now a.at a.w l.k l.v c.from.result (omega arith) (omega arith) (omega arith) l.invariant.0 c.from.ensures,
      below_next a.w l.k l.v c.from.result (omega arith) (omega arith) l.invariant.1 (omega (arith, c.from.ensures, c.type_inv.s (a.at + (l.k - 1)))),
    )
