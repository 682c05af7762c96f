-- `listing::line::put_ending`: five pieces in a row, of at most 64 bytes together. Assumes nothing.
use Rattle.std.proofs.Common.{arith, rules}
use Rattle.layout.proofs.laws.Writing.{then, long}
use Rattle.listing.specs.Lines.{ending}
use Rattle.listing.proofs.Fitting.{ending_short, ending_placed}
use Rattle.listing.proofs.Pieces.{ending_length}
use Rattle.listing.proofs.line.put_ending.Goals as goal

pub put_bytes-a-requires : goal.put_bytes-a-requires
put_bytes-a-requires c =
    let k = c in
    omega (arith, k.requires, ending_length k.args.records k.args.count, ending_short k.args.records k.args.count k.ranges.records.fits k.ranges.count.fits)

pub put-b-requires : goal.put-b-requires
put-b-requires c =
    let k = c in
    let p = c.put_bytes-a.ensures in
    omega (arith, k.requires, ending_length k.args.records k.args.count, ending_short k.args.records k.args.count k.ranges.records.fits k.ranges.count.fits, p.place, long p)

pub put_bytes-c-requires : goal.put_bytes-c-requires
put_bytes-c-requires c =
    let k = c in
    let p = c.put_bytes-a.ensures in
    let q = c.put-b.ensures in
    omega (arith, k.requires, ending_length k.args.records k.args.count, ending_short k.args.records k.args.count k.ranges.records.fits k.ranges.count.fits, p.place, long p, q.place, long q)

pub put-d-requires : goal.put-d-requires
put-d-requires c =
    let k = c in
    let p = c.put_bytes-a.ensures in
    let q = c.put-b.ensures in
    let r = c.put_bytes-c.ensures in
    omega (arith, k.requires, ending_length k.args.records k.args.count, ending_short k.args.records k.args.count k.ranges.records.fits k.ranges.count.fits, p.place, long p, q.place, long q, r.place, long r)

pub put_bytes-requires : goal.put_bytes-requires
put_bytes-requires c =
    let k = c in
    let p = c.put_bytes-a.ensures in
    let q = c.put-b.ensures in
    let r = c.put_bytes-c.ensures in
    let s = c.put-d.ensures in
    omega (arith, k.requires, ending_length k.args.records k.args.count, ending_short k.args.records k.args.count k.ranges.records.fits k.ranges.count.fits, p.place, long p, q.place, long q, r.place, long r, s.place, long s)

pub returns : goal.returns
unfolding ending
returns c =
    let k = c in
    ending_placed k.ranges.records.fits k.ranges.count.fits (then (then (then (then c.put_bytes-a.ensures c.put-b.ensures) c.put_bytes-c.ensures) c.put-d.ensures) c.put_bytes.ensures)
