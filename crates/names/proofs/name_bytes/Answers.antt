-- `names::name_bytes`: the names end to end compute to the constant. Assumes nothing.
use mathlib.Core.Path.{refl}
use Rattle.names.specs.Names.{name_bytes, responses, commands}
use Rattle.names.proofs.name_bytes.Goals as goal

pub returns : goal.returns
unfolding name_bytes responses commands
returns c = refl
