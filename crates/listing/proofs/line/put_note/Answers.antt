-- `listing::line::put_note`: four pieces in a row, which have room together. Assumes nothing.
use Rattle.std.proofs.Common.{arith, rules}
use Rattle.layout.proofs.laws.Writing.{then, long}
use Rattle.listing.specs.Lines.{note_line}
use Rattle.listing.proofs.Pieces.{note_length}
use Rattle.listing.proofs.line.put_note.Goals as goal

pub put_place-a-requires : goal.put_place-a-requires
put_place-a-requires c =
    let k = c in
    omega (arith, k.requires, note_length k.args.place k.args.count)

pub put_bytes-b-requires : goal.put_bytes-b-requires
put_bytes-b-requires c =
    let k = c in
    let p = c.put_place-a.ensures in
    omega (arith, k.requires, note_length k.args.place k.args.count, p.place, long p)

pub put-c-requires : goal.put-c-requires
put-c-requires c =
    let k = c in
    let p = c.put_place-a.ensures in
    let q = c.put_bytes-b.ensures in
    omega (arith, k.requires, note_length k.args.place k.args.count, p.place, long p, q.place, long q)

pub put_bytes-requires : goal.put_bytes-requires
put_bytes-requires c =
    let k = c in
    let p = c.put_place-a.ensures in
    let q = c.put_bytes-b.ensures in
    let r = c.put-c.ensures in
    omega (arith, k.requires, note_length k.args.place k.args.count, p.place, long p, q.place, long q, r.place, long r)

pub returns : goal.returns
unfolding note_line
returns c = then (then (then c.put_place-a.ensures c.put_bytes-b.ensures) c.put-c.ensures) c.put_bytes.ensures
