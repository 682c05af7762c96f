-- `listing::decimal::put_long`: the first digits, and the last eight. Assumes nothing.
use Rattle.std.proofs.Common.{arith, rules}
use Rattle.layout.proofs.laws.Stored.{room_left}
use Rattle.layout.proofs.laws.Writing.{then}
use Rattle.listing.proofs.Spelling.{decimal_parts, parts_length}
use Rattle.listing.proofs.decimal.put_long.Goals as goal

pub put_middle-a-requires : goal.put_middle-a-requires
put_middle-a-requires c = (omega (arith, c.ranges), omega (arith, c.requires.1, parts_length 8 c.args.n c.requires.0))

pub put_eight-requires : goal.put_eight-requires
put_eight-requires c = room_left c.put_middle-a.ensures 8 (omega (arith, c.requires.1, parts_length 8 c.args.n c.requires.0))

pub returns : goal.returns
returns c = rw (decimal_parts 8 c.args.n c.requires.0) (then c.put_middle-a.ensures c.put_eight.ensures)
