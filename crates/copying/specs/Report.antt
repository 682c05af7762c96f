-- What a copy reports, in one line when it ends.
-- Assumes nothing.
use Rattle.std.specs.Prelude.{ℕ, List, [], ◌++◌}
use Rattle.names.specs.Names.{spelled}
use Rattle.text.specs.Number.{decimal}
use Rattle.text.specs.Lines.{refusal_line}
use Rattle.copying.specs.declared.Tally.{Tally}
use Rattle.copying.specs.declared.Fate.{Fate}
use Rattle.copying.specs.declared.Fate.TheVariants as fate

unfoldable pub left_line : ℕ → ℕ → List ℕ
left_line records bytes = spelled "left out " ++ decimal records ++ spelled " records " ++ decimal bytes ++ spelled " bytes\n"

-- what was left out of a recording that is whole; else the refusal, as the listing has it; nothing while the copy goes on
abbrev pub report_of : Fate → Tally → List ℕ
report_of fate.Going t = []
report_of fate.Whole t = left_line t.records t.bytes
report_of (fate.Refused f) t = refusal_line t.place f
