-- `wire::later::newer_place`: refused, the payload, or the current value. Assumes nothing.
use Rattle.wire.proofs.Newest.{fills_whole, fills_other}
use Rattle.wire.proofs.later.newer_place.Goals as goal

pub returns-in-Ok-whole_value : goal.returns-in-Ok-whole_value
returns-in-Ok-whole_value c = rw (← c.in-Ok.ensures, fills_whole c.in-Ok.p.data_type c.args.payload.now c.in-Ok-whole_value.ensures)

pub returns-in-Err-whole_value : goal.returns-in-Err-whole_value
returns-in-Err-whole_value c = rw (← c.in-Ok.ensures, fills_other c.in-Ok.p.data_type c.args.payload.now c.in-Err-whole_value.ensures)
