-- `layout::bad_text` makes what `bad_text` says. Assumes nothing.
use mathlib.Core.Path.{refl}
use Rattle.layout.specs.Answer.{bad_text}
use Rattle.layout.proofs.bad_text.Goals as goal

pub returns : goal.returns
unfolding bad_text
returns c = refl
