-- `copying::report::put_left`: five pieces in a row, which have room together. Assumes nothing.
use Rattle.std.proofs.Common.{arith, rules}
use Rattle.copying.proofs.Reporting.{left_put}
use Rattle.copying.proofs.report.put_left.Goals as goal

pub returns : goal.returns
returns c =
    let k = c in
    left_put k.args.records k.args.bytes k.ranges.records.fits k.ranges.bytes.fits (omega arith) c.copy-a.ensures c.put_number-b.ensures c.copy-c.ensures c.put_number-d.ensures c.copy.ensures
