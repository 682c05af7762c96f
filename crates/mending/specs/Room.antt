-- When `mend` is refused with 9, by the kept lengths and the stretches that it reports; and how its two lists tell these. No pass and no window stands here.
-- Assumes nothing.
use Rattle.std.specs.Prelude.{ℕ, ◌<◌, List, [], ◌∷◌, length}
use Rattle.wire.specs.declared.Part.{Part}
use Rattle.mending.specs.Laid.{total}
use Rattle.mending.specs.Mended.{kept_of, dropped_of, lengths_of}

-- the output is shorter than the kept records together, or one of the report's two lists has fewer places than there are stretches
pub data TooShort (s out starts lengths : List ℕ) : Type 0 where
  for_records : length out < total (lengths_of (kept_of s)) → TooShort s out starts lengths
  for_starts : length starts < length (dropped_of s) → TooShort s out starts lengths
  for_lengths : length lengths < length (dropped_of s) → TooShort s out starts lengths

-- the stretches that two lists tell side by side: a start and a length each
abbrev pub stretches_in : List ℕ → List ℕ → List Part
stretches_in [] lengths = []
stretches_in (a ∷ starts) [] = []
stretches_in (a ∷ starts) (b ∷ lengths) = record { start = a; count = b } ∷ stretches_in starts lengths
