use Rattle.abi.proofs.transaction.made.Goals as goal

pub returns-then-with_data : goal.returns-then-with_data
returns-then-with_data c = rw c.if-with_data.true (rw c.command_of.ensures at c.command_with_data.ensures)

pub returns : goal.returns
returns c = rw c.if-with_data.false (rw c.command_of-2.ensures at c.command.ensures)
