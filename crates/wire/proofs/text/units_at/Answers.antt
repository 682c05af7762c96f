-- All but the last unit lie within. Assumes nothing.
use native.Mathlib.Omega.{arith}
use Rattle.layout.proofs.laws.Reading.{span_within}
use Rattle.wire.proofs.text.units_at.Goals as goal

pub is_paired-requires : goal.is_paired-requires
is_paired-requires c = let h = span_within _ _ _ _ _ c.in_ok-next.ensures in omega (arith, h, c.requires)
