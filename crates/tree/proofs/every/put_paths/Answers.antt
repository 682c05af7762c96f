-- Each place stands behind its parent, whose path stands in the output and is put again.
use Rattle.std.proofs.Common.{◌<◌, ◌+◌, ◌≤◌, length, get_or, length-append, length-set, arith, ap, ◌∙◌}
use Rattle.layout.proofs.laws.Writing.{start, byte, part, end}
use Rattle.layout.proofs.laws.Numbers.{bytes_of}
use Rattle.tree.specs.Listed.{none}
use Rattle.tree.specs.Path.{path_of}
use Rattle.tree.proofs.Trails.{joined_step, joined_none, ends_step, ends_none, joined_short}
use Rattle.tree.proofs.Onward.{one_on, up_of, up_all, stands_on, stands_new}
use Rattle.tree.proofs.laws.Counts.{every_get}
use Rattle.tree.proofs.every.put_paths.Goals as goal

pub loop-i-init : goal.loop-i-init
loop-i-init c = record { paths = start; stops = start; size = c.requires.lens_len.1; stand = none }

pub put_by-next-requires-clause-place_in_bounds : goal.put_by-next-requires-clause-place_in_bounds
put_by-next-requires-clause-place_in_bounds c = every_get c.loop-i.i c.requires.listing.places c.loop-i-test.true

pub put_by-next-requires-clause-above : goal.put_by-next-requires-clause-above
put_by-next-requires-clause-above c = up_all c.args.parents.now c.args.order.now c.loop-i.i c.requires.all (c.requires.listing.above c.loop-i.i c.loop-i-test.true)

pub put_by-next-requires-clause-above_2 : goal.put_by-next-requires-clause-above_2
put_by-next-requires-clause-above_2 c = up_of c.args.parents.now c.args.order.now c.loop-i.i c.loop-i.invariant.stand (c.requires.listing.above c.loop-i.i c.loop-i-test.true)

pub put_by-next-requires-clause-place_in_bounds_2 : goal.put_by-next-requires-clause-place_in_bounds_2
put_by-next-requires-clause-place_in_bounds_2 c =
    let a = c.args in
    let step = joined_step a.parents.now a.ends.now a.names.now a.order.now c.loop-i.i c.loop-i-test.true in
    let owed = c.loop-i.invariant.paths in
    omega (arith, simp length-append at (ap length step), owed.place, owed.long, c.requires.order_in_bounds)

pub bounds-starts-place : goal.bounds-starts-place
bounds-starts-place c =
    let there = every_get c.loop-i.i c.requires.listing.places c.loop-i-test.true in
    omega (arith, c.requires.listing.kept.ruling.few, c.loop-i.invariant.size)

pub overflow_cast-out_ends : goal.overflow_cast-out_ends
overflow_cast-out_ends c =
    let a = c.args in
    let short = joined_short c.requires.listing (bytes_of a.names.now (λ i. (c.type_inv.names i).fits)) in
    let step = joined_step a.parents.now a.ends.now a.names.now a.order.now c.loop-i.i c.loop-i-test.true in
    omega (arith, simp length-append at (ap length step), c.loop-i.invariant.paths.place, c.put_by-next.ensures.place)

pub loop-i-preserved : goal.loop-i-preserved
loop-i-preserved c =
    let a = c.args in
    let l = c.loop-i in
    let more = c.loop-i-test.true in
    let wrote = c.put_by-next.ensures in
    let p = get_or a.order.now l.i 0 in
    let there = every_get l.i c.requires.listing.places more in
    let step = joined_step a.parents.now a.ends.now a.names.now a.order.now l.i more in
    let fits : get_or c.args.order.now c.loop-i.i 0 < length c.loop-i.starts = omega (arith, c.requires.listing.kept.ruling.few, l.invariant.size) in
    let owed = l.invariant.paths in
    let room : c.loop-i.o + length (path_of c.args.parents.now c.args.ends.now c.args.names.now (get_or c.args.order.now c.loop-i.i 0)) ≤ length c.loop-i.out = omega (arith, simp length-append at (ap length step), owed.place, owed.long, c.requires.order_in_bounds) in
    record {
      paths = part step owed wrote;
      stops = byte (ends_step a.parents.now a.ends.now a.names.now a.order.now l.i more l.o _ wrote.place) l.invariant.stops;
      size = length-set l.starts p l.o ∙ l.invariant.size;
      stand = one_on a.order.now l.i l.invariant.stand more (stands_on a.parents.now a.ends.now a.names.now l.starts p wrote room fits) (stands_new a.parents.now a.ends.now a.names.now l.starts p wrote room fits);
    }

pub returns-clause-put : goal.returns-clause-put
returns-clause-put c =
    let a = c.args in
    end (joined_none a.parents.now a.ends.now a.names.now a.order.now c.loop-i.i c.loop-i-test.false) c.loop-i.invariant.paths

pub returns-clause-put_2 : goal.returns-clause-put_2
returns-clause-put_2 c =
    let a = c.args in
    let ended = end (ends_none a.parents.now a.ends.now a.names.now a.order.now c.loop-i.i c.loop-i-test.false c.loop-i.o) c.loop-i.invariant.stops in
    record { bytes = ended.bytes; place = omega (arith, ended.place) }
