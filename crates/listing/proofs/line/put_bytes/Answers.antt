-- `listing::line::put_bytes`: what is copied over the part from the place on is the text. Assumes nothing.
use Rattle.listing.proofs.Ends.{copied}
use Rattle.listing.proofs.line.put_bytes.Goals as goal

pub returns : goal.returns
returns c = copied c.args.out.now c.args.text.now c.args.at c.requires c.copy_from_slice.ensures.after
