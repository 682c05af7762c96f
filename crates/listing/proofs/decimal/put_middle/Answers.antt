-- `listing::decimal::put_middle`: the first digits, and the last eight. Assumes nothing.
use Rattle.std.proofs.Common.{arith, rules}
use Rattle.layout.proofs.laws.Stored.{room_left}
use Rattle.layout.proofs.laws.Writing.{then}
use Rattle.listing.proofs.Spelling.{decimal_parts, parts_length}
use Rattle.listing.proofs.decimal.put_middle.Goals as goal

pub put_few-a-requires : goal.put_few-a-requires
put_few-a-requires c = (omega (arith, c.requires.0), omega (arith, c.requires.1, parts_length 8 c.args.n c.if-n-lt100000000.false))

pub put_eight-requires : goal.put_eight-requires
put_eight-requires c = room_left c.put_few-a.ensures 8 (omega (arith, c.requires.1, parts_length 8 c.args.n c.if-n-lt100000000.false))

pub returns : goal.returns
returns c = rw (decimal_parts 8 c.args.n c.if-n-lt100000000.false) (then c.put_few-a.ensures c.put_eight.ensures)
