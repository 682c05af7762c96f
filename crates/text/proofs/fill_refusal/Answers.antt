-- `text::fill_refusal`: five pieces in a row, which have room together. Assumes nothing.
use native.Mathlib.Omega.{arith}
use Rattle.text.proofs.laws.Refusing.{at_room, refusal_put}
use Rattle.text.proofs.fill_refusal.Goals as goal

pub put_at-d-requires : goal.put_at-d-requires
put_at-d-requires c =
    at_room c.args.place c.args.f c.ranges.place.fits (omega arith) (omega arith) (omega arith) c.put_number-a.ensures c.copy-b.ensures c.put_number-c.ensures

pub returns : goal.returns
returns c =
    refusal_put c.args.place c.args.f c.ranges.place.fits (omega arith) (omega arith) (omega arith) c.put_number-a.ensures c.copy-b.ensures c.put_number-c.ensures c.put_at-d.ensures c.copy.ensures
