-- `listing::decimal::put_short`: the first digits, and the last four. Assumes nothing.
use Rattle.std.proofs.Common.{arith, rules}
use Rattle.layout.proofs.laws.Stored.{room_left}
use Rattle.layout.proofs.laws.Writing.{then}
use Rattle.listing.proofs.Spelling.{decimal_parts, parts_length}
use Rattle.listing.proofs.decimal.put_short.Goals as goal

pub put_few-a-requires : goal.put_few-a-requires
put_few-a-requires c = (omega (arith, c.requires.0), omega (arith, c.requires.1, parts_length 4 c.args.n c.if-n-lt10000.false))

pub put_four-requires : goal.put_four-requires
put_four-requires c = room_left c.put_few-a.ensures 4 (omega (arith, c.requires.1, parts_length 4 c.args.n c.if-n-lt10000.false))

pub returns : goal.returns
returns c = rw (decimal_parts 4 c.args.n c.if-n-lt10000.false) (then c.put_few-a.ensures c.put_four.ensures)
