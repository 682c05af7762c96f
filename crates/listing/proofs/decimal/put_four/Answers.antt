-- `listing::decimal::put_four`: two digits and two more. Assumes nothing.
use Rattle.layout.proofs.laws.Writing.{then}
use Rattle.listing.proofs.Spelling.{in_parts}
use Rattle.std.proofs.Common.{rules}
use Rattle.listing.proofs.decimal.put_four.Goals as goal

pub returns : goal.returns
returns c = rw (in_parts 2 2 c.args.n) (then c.put_two-a.ensures c.put_two.ensures)
