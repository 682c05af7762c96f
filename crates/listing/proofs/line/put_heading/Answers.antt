-- `listing::line::put_heading`: one text. Assumes nothing.
use Rattle.listing.specs.Lines.{heading}
use Rattle.std.proofs.Common.{rules}
use Rattle.listing.proofs.line.put_heading.Goals as goal

pub returns : goal.returns
unfolding heading
returns c = c.put_bytes.ensures
