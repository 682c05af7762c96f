-- `mending::report::put_counts`: nine pieces in a row, which have room together. Assumes nothing.
use Rattle.std.proofs.Common.{◌≤◌, length, rules}
use Rattle.layout.specs.Written.{Put}
use Rattle.layout.proofs.laws.Writing.{long}
use Rattle.mending.specs.Report.{counts_line}
use Rattle.mending.proofs.Reporting.{counts_put}
use Rattle.mending.proofs.report.put_counts.Statement.{statement}
use Rattle.mending.proofs.report.put_counts.Tie as tie

line : (c : tie.After-copy) → let k = c.args in Put k.out.now 0 (counts_line k.records k.bytes k.stretches k.dropped) c.copy.new.out c.copy.result × (c.copy.result ≤ length k.out.now)
line c =
    let k = c in
    counts_put k.args.records k.args.bytes k.args.stretches k.args.dropped k.ranges.records.fits k.ranges.bytes.fits k.ranges.stretches.fits k.ranges.dropped.fits k.requires c.copy-a.ensures
    c.put_number-b.ensures c.copy-c.ensures c.put_number-d.ensures c.copy-e.ensures c.put_number-f.ensures c.copy-g.ensures c.put_number-h.ensures c.copy.ensures

pub put_counts_spec : {M : Type 1} → statement M
put_counts_spec =
    tie.close
    (tie.spec
    (λ c κs. search rules)
    (λ c κs. search rules)
    (λ c κs. search rules)
    (λ c κs. search rules)
    (λ c κs. search rules)
    (λ c κs. search rules)
    (λ c κs. search rules)
    (λ c κs. search rules)
    (λ c κs. search rules)
    (λ c. long (line c.before.before).0)
    (λ c. line c.before.before))
