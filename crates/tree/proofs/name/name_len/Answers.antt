use Rattle.tree.proofs.Routes.{name_size, name_none}
use Rattle.tree.proofs.name.name_len.Goals as goal

pub returns-in_default : goal.returns-in_default
returns-in_default c = name_none c.args.ends.now c.args.names.now c.args.k _ c.start_of-from.ensures _ c.in_default.ensures

pub returns : goal.returns
returns c = name_size c.args.ends.now c.args.names.now c.args.k _ c.start_of-from.ensures _ _ c.in-Ok.ensures
