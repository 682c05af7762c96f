-- What a mending reports: a line for each dropped stretch, and a last line that counts what was kept and what was dropped.
-- Assumes nothing.
use Rattle.std.specs.Prelude.{ℕ, List, [], ◌∷◌, ◌++◌, length}
use Rattle.names.specs.Names.{spelled}
use Rattle.text.specs.Number.{decimal}
use Rattle.wire.specs.declared.Part.{Part}
use Rattle.mending.specs.Mended.{kept_of, mend_said, dropped_of, starts_of, lengths_of}
use Rattle.mending.specs.Laid.{total}

unfoldable pub stretch_line : ℕ → ℕ → List ℕ
stretch_line start count = decimal start ++ spelled " dropped " ++ decimal count ++ spelled "\n"

-- of stretches by their starts and lengths
unfoldable pub lines_of : List ℕ → List ℕ → List ℕ
lines_of [] ls = []
lines_of (s ∷ ss) [] = []
lines_of (s ∷ ss) (l ∷ ls) = stretch_line s l ++ lines_of ss ls

abbrev pub stretch_lines : List Part → List ℕ
stretch_lines ps = lines_of (starts_of ps) (lengths_of ps)

unfoldable pub counts_line : ℕ → ℕ → ℕ → ℕ → List ℕ
counts_line records bytes stretches dropped =
    spelled "kept " ++ decimal records ++ spelled " records " ++ decimal bytes ++ spelled " bytes, dropped " ++ decimal stretches ++ spelled " stretches " ++ decimal dropped ++ spelled " bytes\n"

-- of a whole recording
abbrev pub report_of : List ℕ → List ℕ
report_of s = stretch_lines (dropped_of s) ++ counts_line (length (kept_of s)) (length (mend_said s)) (length (dropped_of s)) (total (lengths_of (dropped_of s)))
