-- `wire::property::values_at`: values end no earlier than they begin. Assumes nothing.
use Rattle.wire.proofs.Passed.{values_ahead}
use Rattle.wire.proofs.property.values_at.Goals as goal

pub overflow_sub-len : goal.overflow_sub-len
overflow_sub-len c = let a = c.args in values_ahead a.code a.s.now a.n a.c.at _ c.in_ok-next.ensures
