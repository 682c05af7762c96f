-- Each place stands behind its parent, so its parent's length is kept; no sum is past that of all paths.
use Rattle.std.proofs.Common.{◌<◌, length, get_or, length-append, length-set, arith, ap, ◌∙◌}
use Rattle.layout.proofs.laws.Numbers.{bytes_of}
use Rattle.tree.specs.Listed.{none}
use Rattle.tree.proofs.Trails.{joined_step, joined_none, joined_short}
use Rattle.tree.proofs.Onward.{one_on, all_on, up_of, long_on, long_new}
use Rattle.tree.proofs.laws.Counts.{every_get}
use Rattle.tree.proofs.every.paths_len.Goals as goal

pub loop-place-init : goal.loop-place-init
loop-place-init c = record { counted = omega arith; size = c.requires.lens_len; kept = none }

pub len_by-n-requires-clause-place_in_bounds : goal.len_by-n-requires-clause-place_in_bounds
len_by-n-requires-clause-place_in_bounds c = every_get c.loop-place.place-index c.requires.listing.places c.loop-place-test.true

pub len_by-n-requires-clause-above : goal.len_by-n-requires-clause-above
len_by-n-requires-clause-above c =
    let i = c.loop-place.place-index in
    up_of c.args.parents.now c.args.order.now i c.loop-place.invariant.kept (c.requires.listing.above i c.loop-place-test.true)

pub bounds-lens-place : goal.bounds-lens-place
bounds-lens-place c =
    let there = every_get c.loop-place.place-index c.requires.listing.places c.loop-place-test.true in
    omega (arith, c.requires.listing.kept.ruling.few, c.loop-place.invariant.size)

pub overflow_add-need : goal.overflow_add-need
overflow_add-need c =
    let a = c.args in
    let short = joined_short c.requires.listing (bytes_of a.names.now (λ i. (c.type_inv.names i).fits)) in
    let step = joined_step a.parents.now a.ends.now a.names.now a.order.now c.loop-place.place-index c.loop-place-test.true in
    omega (arith, simp length-append at (ap length step), c.len_by-n.ensures, c.loop-place.invariant.counted)

pub loop-place-preserved : goal.loop-place-preserved
loop-place-preserved c =
    let a = c.args in
    let l = c.loop-place in
    let more = c.loop-place-test.true in
    let p = get_or a.order.now l.place-index 0 in
    let there = every_get l.place-index c.requires.listing.places more in
    let fits : get_or c.args.order.now c.loop-place.place-index 0 < length c.loop-place.lens = omega (arith, c.requires.listing.kept.ruling.few, l.invariant.size) in
    let step = joined_step a.parents.now a.ends.now a.names.now a.order.now l.place-index more in
    let n = c.len_by-n.result in
    let long = c.len_by-n.ensures in
    record {
      counted = omega (arith, simp length-append at (ap length step), long, l.invariant.counted);
      size = length-set l.lens p n ∙ l.invariant.size;
      kept = one_on a.order.now l.place-index l.invariant.kept more (long_on a.parents.now a.ends.now a.names.now l.lens p n long fits) (long_new a.parents.now a.ends.now a.names.now l.lens p n long fits);
    }

pub returns : goal.returns
returns c =
    let a = c.args in
    let l = c.loop-place in
    (omega (arith, ap length (joined_none a.parents.now a.ends.now a.names.now a.order.now l.place-index c.loop-place-test.false), l.invariant.counted), all_on a.order.now l.place-index l.invariant.kept c.loop-place-test.false, l.invariant.size)
