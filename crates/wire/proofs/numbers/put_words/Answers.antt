-- `wire::numbers::put_words`: one word more. Assumes nothing.
use mathlib.Core.Path.{◌≡◌, ap, sym, ◌∙◌}
use mathlib.Core.List.{◌∷◌, map}
use Prim.Native.Nat.{◌+◌}
use native.Mathlib.Omega.{arith}
use Rattle.layout.proofs.laws.Writing.{byte, end}
use Rattle.wire.specs.Numbers.{extended}
use Rattle.wire.proofs.Turns.{left_at, one_more, none_more}
use Rattle.wire.proofs.numbers.put_words.Goals as goal

pub loop-i-preserved : goal.loop-i-preserved
loop-i-preserved c =
    let a = c.args in
    let l = c.loop-i in
    let is = c.extend.ensures ∙ ap (extended a.half a.top) c.word.ensures.0 in
    byte (ap (map (extended a.half a.top)) (one_more a.w a.n a.s.now a.at l.i (omega arith)) ∙ ap (λ x. x ∷ map (extended a.half a.top) (left_at a.w a.n a.s.now a.at (l.i + 1))) (sym is)) l.invariant

pub returns : goal.returns
returns c =
    let a = c.args in
    let l = c.loop-i in
    let last : l.i ≡ a.n = omega arith in
    rw last at (end (ap (map (extended a.half a.top)) (none_more a.w a.n a.s.now a.at l.i (omega arith))) l.invariant)
