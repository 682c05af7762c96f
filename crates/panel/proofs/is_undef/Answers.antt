-- What is read of no bytes is nothing for UNDEF alone.
use Rattle.std.proofs.Common.{[], ap, ◌∙◌}
use Rattle.wire.specs.Layout.{shape}
use Rattle.panel.proofs.Types.{nothing_in, undef_alone}
use Rattle.panel.proofs.is_undef.Goals as goal

pub returns-in_default : goal.returns-in_default
returns-in_default c = ap nothing_in c.in_default.ensures ∙ undef_alone (shape c.args.code) [] 0

pub returns : goal.returns
returns c = c.is_nothing.ensures ∙ ap nothing_in c.in-Ok.ensures ∙ undef_alone (shape c.args.code) [] 0
