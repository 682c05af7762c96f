-- `listing::write_heading`: the room's test, then the text. Assumes nothing.
use Rattle.std.proofs.Common.{refl}
use Rattle.layout.proofs.laws.Writing.{no_room, done}
use Rattle.listing.specs.Lines.{heading}
use Rattle.listing.proofs.write_heading.Goals as goal

pub returns-then-out-lt30 : goal.returns-then-out-lt30
unfolding heading
returns-then-out-lt30 c = no_room refl c.if-out-lt30.true c.plain.ensures

pub returns : goal.returns
unfolding heading
returns c = done refl c.if-out-lt30.false c.put_heading.ensures
