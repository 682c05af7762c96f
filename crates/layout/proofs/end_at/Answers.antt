-- `layout::end_at` makes what `end_at` says. Assumes nothing.
use mathlib.Core.Path.{refl}
use Rattle.layout.specs.Answer.{end_at}
use Rattle.layout.proofs.end_at.Goals as goal

pub returns : goal.returns
unfolding end_at
returns c = refl
