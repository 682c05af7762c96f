use Rattle.abi.proofs.record.content_row.Goals as goal

pub returns-in-Some : goal.returns-in-Some
returns-in-Some c = rw c.in-Some.is c.container_row.ensures
