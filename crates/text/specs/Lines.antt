-- The line of a refusal, as the listing and a copy's report have it.
-- Assumes nothing.
use Rattle.std.specs.Prelude.{List, [], ◌++◌, ℕ}
use Rattle.layout.specs.Answer.{Told, pick}
use Rattle.names.specs.Names.{spelled}
use Rattle.text.specs.Number.{decimal}

-- where the field that failed begins, from the record's start; nothing of a refusal that has no place
unfoldable pub at_text : Told → List ℕ
at_text t = pick t.placed (spelled " " ++ decimal t.at) []

-- of the record at a place
unfoldable pub refusal_line : ℕ → Told → List ℕ
refusal_line place t = decimal place ++ spelled " refusal " ++ decimal t.no ++ at_text t ++ spelled "\n"
