-- `settings::entry::whole_at`: the six bytes lie within. Assumes nothing.
use native.Mathlib.Omega.{arith}
use Rattle.layout.specs.Bytes.{number}
use Rattle.layout.proofs.laws.Accepted.{accepted, accepts_field}
use Rattle.settings.proofs.entry.whole_at.Goals as goal

pub rest_at-requires : goal.rest_at-requires
rest_at-requires c = let p = accepted _ (accepts_field 2 number c.args.s.now _) c.in_ok-kind.ensures in omega (arith, p.0, p.1)
