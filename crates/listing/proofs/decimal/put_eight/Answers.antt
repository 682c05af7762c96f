-- `listing::decimal::put_eight`: four digits and four more. Assumes nothing.
use Rattle.layout.proofs.laws.Writing.{then}
use Rattle.listing.proofs.Spelling.{in_parts}
use Rattle.std.proofs.Common.{rules}
use Rattle.listing.proofs.decimal.put_eight.Goals as goal

pub returns : goal.returns
returns c = rw (in_parts 4 4 c.args.n) (then c.put_four-a.ensures c.put_four.ensures)
