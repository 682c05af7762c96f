-- `layout::write::copy` takes no more than there is, tests the room, then copies. Assumes nothing.
use Rattle.layout.proofs.Copied.{no_room_copied, copied}
use Rattle.layout.proofs.write.copy.Goals as goal

pub returns-then-left-m : goal.returns-then-left-m
returns-then-left-m c = no_room_copied _ _ _ _ _ _ _ _ c.left.ensures c.min-m.ensures c.left-2.ensures c.if-left-m.true

pub returns : goal.returns
returns c = copied _ _ _ _ _ _ _ _ c.left.ensures c.min-m.ensures c.left-2.ensures c.if-left-m.false c.copy_all.ensures
