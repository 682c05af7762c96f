-- `wire::text::clash` is 1 where `follows` says no. Assumes nothing.
use mathlib.Core.Path.{sym, ◌∙◌}
use native.Mathlib.Omega.{arith}
use Rattle.wire.proofs.text.clash.Goals as goal

pub returns-then-follows : goal.returns-then-follows
returns-then-follows c = (rw (sym c.follows.ensures ∙ c.if-follows.true), omega arith)

pub returns-else-follows : goal.returns-else-follows
returns-else-follows c = (rw (sym c.follows.ensures ∙ c.if-follows.false), omega arith)
