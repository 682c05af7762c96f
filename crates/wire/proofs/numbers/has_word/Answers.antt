-- `wire::numbers::has_word`: one word more. Assumes nothing.
use mathlib.Core.Path.{sym, ◌∙◌}
use Prim.Native.Nat.{◌+◌, ◌-◌, ◌*◌}
use native.Mathlib.Omega.{arith}
use Rattle.wire.proofs.NumberWords.{met, none_met}
use Rattle.wire.proofs.Turns.{after_one}
use Rattle.wire.proofs.numbers.has_word.Goals as goal

pub loop-i-preserved : goal.loop-i-preserved
loop-i-preserved c =
    let a = c.args in
    let l = c.loop-i in
    rw c.word.ensures.0 (rw (after_one a.w a.n a.s.now a.at l.i) at (met a.s.now (a.at + l.i * a.w) (a.n - l.i) a.w a.x l.found (omega arith)) ∙ l.invariant)

pub returns : goal.returns
returns c =
    let a = c.args in
    let l = c.loop-i in
    sym (none_met a.s.now (a.at + l.i * a.w) (a.n - l.i) a.w a.x l.found (omega arith)) ∙ l.invariant
