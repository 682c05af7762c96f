-- `mending::report::put_line`: four pieces in a row, which have room together. Assumes nothing.
use Rattle.mending.proofs.Reporting.{stretch_put}
use Rattle.std.proofs.Common.{rules}
use Rattle.mending.proofs.report.put_line.Goals as goal

pub returns : goal.returns
returns c =
    let k = c in
    stretch_put k.args.start k.args.count k.ranges.start.fits k.ranges.count.fits k.requires c.put_number-a.ensures c.copy-b.ensures c.put_number-c.ensures c.copy.ensures
