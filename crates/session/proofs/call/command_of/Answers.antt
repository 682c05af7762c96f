-- `session::call::command_of`: the parameters one by one. Assumes nothing.
use Rattle.std.proofs.Common.{rules}
use Rattle.session.proofs.call.command_of.Goals as goal

pub returns : goal.returns
returns c = rw (c.param.ensures, c.param-2.ensures, c.param-3.ensures, c.param-4.ensures, c.param-5.ensures)
