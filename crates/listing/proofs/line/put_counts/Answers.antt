-- `listing::line::put_counts`: five pieces in a row, which have room together. Assumes nothing.
use Rattle.std.proofs.Common.{arith, rules}
use Rattle.layout.proofs.laws.Writing.{then, long}
use Rattle.listing.specs.Lines.{counts_text}
use Rattle.listing.proofs.Pieces.{counts_length}
use Rattle.listing.proofs.line.put_counts.Goals as goal

pub put_bytes-a-requires : goal.put_bytes-a-requires
put_bytes-a-requires c =
    let k = c in
    omega (arith, k.requires, counts_length k.args.number k.args.count)

pub put-b-requires : goal.put-b-requires
put-b-requires c =
    let k = c in
    let p = c.put_bytes-a.ensures in
    omega (arith, k.requires, counts_length k.args.number k.args.count, p.place, long p)

pub put_bytes-c-requires : goal.put_bytes-c-requires
put_bytes-c-requires c =
    let k = c in
    let p = c.put_bytes-a.ensures in
    let q = c.put-b.ensures in
    omega (arith, k.requires, counts_length k.args.number k.args.count, p.place, long p, q.place, long q)

pub put-d-requires : goal.put-d-requires
put-d-requires c =
    let k = c in
    let p = c.put_bytes-a.ensures in
    let q = c.put-b.ensures in
    let r = c.put_bytes-c.ensures in
    omega (arith, k.requires, counts_length k.args.number k.args.count, p.place, long p, q.place, long q, r.place, long r)

pub put_bytes-requires : goal.put_bytes-requires
put_bytes-requires c =
    let k = c in
    let p = c.put_bytes-a.ensures in
    let q = c.put-b.ensures in
    let r = c.put_bytes-c.ensures in
    let s = c.put-d.ensures in
    omega (arith, k.requires, counts_length k.args.number k.args.count, p.place, long p, q.place, long q, r.place, long r, s.place, long s)

pub returns : goal.returns
unfolding counts_text
returns c = then (then (then (then c.put_bytes-a.ensures c.put-b.ensures) c.put_bytes-c.ensures) c.put-d.ensures) c.put_bytes.ensures
