-- `listing::write_ending`: the line is made in a place of its own, which shows its length, and copied. Assumes nothing.
use Rattle.std.proofs.Common.{sym, refl, arith, length-take-le}
use Rattle.layout.proofs.laws.Stored.{first, put_whole}
use Rattle.layout.proofs.laws.Writing.{no_room, done, long}
use Rattle.text.proofs.laws.Numerals.{shown}
use Rattle.listing.proofs.write_ending.Goals as goal

pub returns-then-out-n : goal.returns-then-out-n
returns-then-out-n c = no_room refl (omega (arith, c.put_ending-n.ensures.0.place)) c.plain.ensures

pub slice_bounds-text-end : goal.slice_bounds-text-end
slice_bounds-text-end c = let p = c.put_ending-n.ensures in omega (arith, long p.0, p.1)

pub slice_bounds-copy-end : goal.slice_bounds-copy-end
slice_bounds-copy-end c = let p = c.put_ending-n.ensures in sym (length-take-le _ _ (omega (arith, long p.0, p.1)))

pub returns : goal.returns
returns c =
    let p = c.put_ending-n.ensures in
    let whole = put_whole p.0 (omega (arith, p.0.place, p.1)) in
    done refl (omega (arith, p.0.place, c.if-out-n.false)) (first (omega (arith, p.0.place, c.if-out-n.false)) (rw (shown c.put_ending-n.result _ _ whole) at c.copy.ensures))
