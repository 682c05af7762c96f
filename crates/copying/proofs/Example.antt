-- A copy's report as text, computed.
-- Assumes nothing.
use Rattle.std.proofs.Common.{◌≡◌, refl}
use Rattle.names.specs.Names.{spelled}
use Rattle.text.specs.Number.{digits_of, decimal}
use Rattle.copying.specs.Report.{left_line, report_of}
use Rattle.copying.specs.declared.Fate.TheVariants as fate
use Rattle.copying.specs.declared.Tally.{Tally}

-- two notes of thirteen bytes in all were left out
pub left_out_spelled : (t : Tally) → t.records ≡ 2 → t.bytes ≡ 13 → report_of fate.Whole t ≡ spelled "left out 2 records 13 bytes\n"
unfolding digits_of decimal left_line
left_out_spelled t e f = rw (e, f) refl
