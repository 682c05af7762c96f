-- The report of a mending as text, computed: a byte that is no record's, a note of no bytes, and two bytes more.
-- Assumes nothing.
use Rattle.std.proofs.Common.{◌≡◌, [], ◌∷◌, refl}
use Rattle.layout.specs.Answer.{bare, end_at, after, means, span_at, field_at}
use Rattle.layout.specs.Bytes.{number}
use Rattle.names.specs.Names.{spelled}
use Rattle.recording.specs.Record.{content_at, body_at, head_at, record_at}
use Rattle.recording.specs.Record as R
use Rattle.text.specs.Number.{digits_of, decimal}
use Rattle.mending.specs.Mended.{cut_from, cut_at, kept_in, kept_of, parts_of, mend_said, joined_in, dropped_of}
use Rattle.mending.specs.Report.{stretch_line, lines_of, counts_line, report_of}

pub report_spelled : report_of (255 ∷ 6 ∷ 0 ∷ 0 ∷ 0 ∷ 3 ∷ 0 ∷ 9 ∷ 9 ∷ []) ≡ spelled "0 dropped 1\n7 dropped 2\nkept 1 records 6 bytes, dropped 2 stretches 3 bytes\n"
unfolding bare end_at after means span_at field_at number R.is_kind content_at body_at head_at record_at cut_from cut_at kept_in kept_of parts_of mend_said joined_in dropped_of digits_of decimal stretch_line lines_of counts_line
report_spelled = refl
