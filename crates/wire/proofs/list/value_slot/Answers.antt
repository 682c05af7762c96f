-- `wire::list::value_slot`: a value ends no earlier than it begins. Assumes nothing.
use Rattle.wire.proofs.Described.{located_from}
use Rattle.wire.proofs.list.value_slot.Goals as goal

pub overflow_sub-len : goal.overflow_sub-len
overflow_sub-len c = let a = c.args in located_from a.code a.s.now a.at _ _ c.in_ok-v.ensures
