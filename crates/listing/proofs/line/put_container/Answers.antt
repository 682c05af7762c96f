-- `listing::line::put_container`: five pieces in a row, which have room together. Assumes nothing.
use Rattle.std.proofs.Common.{arith, rules}
use Rattle.layout.proofs.laws.Writing.{then, long}
use Rattle.listing.specs.Lines.{container_line}
use Rattle.listing.proofs.Pieces.{container_length}
use Rattle.listing.proofs.line.put_container.Goals as goal

pub put_place-a-requires : goal.put_place-a-requires
put_place-a-requires c =
    let k = c in
    omega (arith, k.requires.1, container_length k.args.place k.args.kind k.args.x)

pub put_way-b-requires : goal.put_way-b-requires
put_way-b-requires c =
    let k = c in
    let p = c.put_place-a.ensures in
    omega (arith, k.requires.1, container_length k.args.place k.args.kind k.args.x, p.place, long p)

pub put_kind-c-requires : goal.put_kind-c-requires
put_kind-c-requires c =
    let k = c in
    let p = c.put_place-a.ensures in
    let q = c.put_way-b.ensures in
    omega (arith, k.requires.1, container_length k.args.place k.args.kind k.args.x, p.place, long p, q.place, long q)

pub put_code-d-requires : goal.put_code-d-requires
put_code-d-requires c =
    let k = c in
    let p = c.put_place-a.ensures in
    let q = c.put_way-b.ensures in
    let r = c.put_kind-c.ensures in
    (k.requires.0, omega (arith, k.requires.1, container_length k.args.place k.args.kind k.args.x, p.place, long p, q.place, long q, r.place, long r))

pub put_counts-requires : goal.put_counts-requires
put_counts-requires c =
    let k = c in
    let p = c.put_place-a.ensures in
    let q = c.put_way-b.ensures in
    let r = c.put_kind-c.ensures in
    let s = c.put_code-d.ensures in
    omega (arith, k.requires.1, container_length k.args.place k.args.kind k.args.x, p.place, long p, q.place, long q, r.place, long r, s.place, long s)

pub returns : goal.returns
unfolding container_line
returns c = then (then (then (then c.put_place-a.ensures c.put_way-b.ensures) c.put_kind-c.ensures) c.put_code-d.ensures) c.put_counts.ensures
