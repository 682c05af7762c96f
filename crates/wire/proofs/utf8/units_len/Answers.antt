-- `wire::utf8::units_len`: below 0x80 a byte each; else one unit more, and since all pair, that is all. Assumes nothing.
use mathlib.Core.Path.{sym, ap}
use native.Mathlib.Omega.{arith}
use lib.ListN.{drop}
use Rattle.layout.specs.Bytes.{cells}
use Rattle.wire.proofs.Lengths.{units_len, units_long}
use Rattle.wire.proofs.Small.{ascii_long}
use Rattle.wire.proofs.Turns.{one_more, none_more}
use Rattle.wire.proofs.utf8.units_len.Goals as goal

pub returns-then-is_ascii : goal.returns-then-is_ascii
returns-then-is_ascii c = sym (ascii_long _ (drop c.args.start c.args.s.now) (c.is_ascii.ensures c.if-is_ascii.true))

pub loop-i-preserved : goal.loop-i-preserved
unfolding units_len
loop-i-preserved c =
    let a = c.args in
    let l = c.loop-i in
    let on = rw (← c.unit_at.ensures) at (ap units_len (one_more 2 a.count a.s.now a.start l.i (omega arith))) in
    (omega (arith, on, c.unit_len-need.ensures.0, l.invariant.0), omega (arith, c.unit_len-need.ensures.1, l.invariant.1))

pub returns : goal.returns
unfolding units_len
returns c =
    let a = c.args in
    let l = c.loop-i in
    omega (arith, c.from.ensures, l.invariant.0, ap units_len (none_more 2 a.count a.s.now a.start l.i (omega arith)), units_long (cells 2 a.count (drop a.start a.s.now)) c.requires.pair)
