-- `wire::encode::put_ascii`: one unit more, which is its own byte. Assumes nothing.
use mathlib.Core.Path.{◌≡◌, sym, ap, ◌∙◌}
use mathlib.Core.List.{◌∷◌}
use Prim.Native.Nat.{◌+◌}
use native.Mathlib.Omega.{arith}
use lib.ListN.{drop}
use Rattle.layout.specs.Bytes.{cells}
use Rattle.layout.proofs.laws.Writing.{byte, end}
use Rattle.wire.proofs.Small.{ascii_utf8}
use Rattle.wire.proofs.Turns.{left_at, one_more, none_more}
use Rattle.wire.proofs.encode.put_ascii.Goals as goal

pub loop-i-preserved : goal.loop-i-preserved
loop-i-preserved c =
    let a = c.args in
    let l = c.loop-i in
    let first = rw (← c.unit_at.ensures) at (one_more 2 a.count a.s.now a.start l.i (omega arith)) in
    let small = rw first at l.invariant.1 in
    let is = c.ascii_of.ensures small.0 in
    let next : a.o + l.i + 1 ≡ a.o + (l.i + 1) = omega arith in
    (rw (← next) (byte (first ∙ ap (λ u. u ∷ left_at 2 a.count a.s.now a.start (l.i + 1)) (sym is)) l.invariant.0), small.1)

pub returns : goal.returns
returns c =
    let a = c.args in
    let l = c.loop-i in
    let last : l.i ≡ a.count = omega arith in
    rw (ascii_utf8 (cells 2 a.count (drop a.start a.s.now)) c.requires.none_above) (rw last at (end (none_more 2 a.count a.s.now a.start l.i (omega arith)) l.invariant.0))
