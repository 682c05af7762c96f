-- `copying::report::put_refused`: any such line has room. Assumes nothing.
use Rattle.std.proofs.Common.{arith, rules}
use Rattle.layout.proofs.laws.Stored.{first}
use Rattle.text.proofs.laws.Refusing.{refusal_short}
use Rattle.copying.proofs.report.put_refused.Goals as goal

pub returns : goal.returns
returns c =
    let k = c in
    let g = k.well_formed in
    let h = refusal_short k.args.place k.args.f k.ranges.place.fits (omega arith) (omega arith) in
    let p = first (omega (arith, h)) c.put_refusal.ensures in
    (p, omega (arith, p.place, h))
