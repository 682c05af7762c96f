-- `layout::plain` makes what `bare` says. Assumes nothing.
use mathlib.Core.Path.{refl}
use Rattle.layout.specs.Answer.{bare}
use Rattle.layout.proofs.plain.Goals as goal

pub returns : goal.returns
unfolding bare
returns c = refl
