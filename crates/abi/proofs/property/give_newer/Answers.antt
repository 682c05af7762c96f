use Rattle.abi.proofs.property.give_newer.Goals as goal

pub returns : goal.returns
returns c = rw (← c.newer_place-c.ensures) c.give.ensures
