-- A span that is there lies within. Assumes nothing.
use native.Mathlib.Omega.{arith}
use Rattle.layout.proofs.laws.Reading.{span_within}
use Rattle.wire.proofs.field.num_at.Goals as goal

pub word-requires : goal.word-requires
word-requires c = let h = span_within _ _ _ _ _ c.in_ok-next.ensures in omega (arith, h, c.requires)
