-- The grammar alone does not tell END from TEXT: one grammar, two bytes of which the first is 0, and two readers that are faithful to it, final and open, and differ.
-- The one tests both bytes when both are there, the other the first when it is. Their faults differ, and by their faults each is determined (proofs/Decided, `agree`).
-- Assumes nothing.
use mathlib.Core.Path.{◌≡◌, refl}
use mathlib.Core.Bool.{Bool}
use mathlib.Core.List.{List, [], ◌∷◌}
use Prim.Native.Nat.{ℕ}
use lib.Dec.{eqb, lit≤}
use Rattle.layout.specs.Answer.{Answer, got, bad_text, after, means, span_at, field_at}
use Rattle.layout.specs.Bytes.{bytes, number}
use Rattle.layout.specs.Codec.{Codec, numbered, ◌and◌, only}
use Rattle.layout.specs.Faithful.{Faithful}
use Rattle.layout.specs.Fault.{Ends, BadText, Clean, Fails, Along, Decides}
use Rattle.layout.specs.Format.{Format, Stands, Sound, word, none}
use Rattle.layout.specs.Grammar.{Spelling, loose, tidy, Grammar, Number, num, ◌then◌, both, Such, such}
use Rattle.layout.proofs.laws.Decided.{decides}
use Rattle.layout.proofs.laws.Final.{number_faults, then_faults, such_faults}
use Rattle.layout.proofs.laws.Make.{number_format, then_format, such_format}
use Rattle.layout.proofs.laws.Meets.{faithful}

abbrev pub nought : ℕ → Bool
nought n = eqb n 0

abbrev pub nought_first : ℕ × ℕ → Bool
nought_first x = nought x.0

-- the test over both, and the test over the first: the same words
abbrev pub Two : Grammar (ℕ × ℕ)
Two = Such nought_first (Number 1 then λ _. Number 1)

abbrev pub Two' : Grammar (ℕ × ℕ)
Two' = Such nought (Number 1) then λ _. Number 1

pub to : (p : Spelling) {w : List ℕ} {x : ℕ × ℕ} → Two' p w x → Two p w x
to p (both (such t g) h) = such t (both g h)

pub from : (p : Spelling) {w : List ℕ} {x : ℕ × ℕ} → Two p w x → Two' p w x
from p (such t (both g h)) = both (such t g) h

pub a_word : Two loose (0 ∷ 7 ∷ []) (0, 7)
unfolding bytes
a_word = such tt (both (num {n = 0} (lit≤ tt)) (num {n = 7} (lit≤ tt)))

-- ── the two readers ──

abbrev pub late : Codec (ℕ × ℕ)
late = only bad_text nought_first (numbered 1 and λ _. numbered 1)

abbrev pub soon : Codec (ℕ × ℕ)
soon = only bad_text nought (numbered 1) and λ _. numbered 1

late_format : Format Two late
late_format = such_format bad_text nought_first (then_format (number_format 1) λ _. number_format 1)

soon_format : Format Two soon
soon_format = record {
  sound = λ s h at. sounds (own.sound s h at);
  complete = completes;
  inside = late_format.inside;
  one = ones;
  has = hass;
}
  where
    own : Format Two' soon
    own = then_format (such_format bad_text nought (number_format 1)) λ _. number_format 1

    sounds : {s : List ℕ} {at : ℕ} {x : Answer (ℕ × ℕ)} → Sound Two' s at x → Sound Two s at x
    sounds (word st g) = word st (to loose g)
    sounds none = none

    completes : {s w : List ℕ} {at n : ℕ} {r : ℕ × ℕ} → Stands s at n w → Two loose w r → soon.read s at ≡ got r n
    completes st g = own.complete st (from loose g)

    ones : {w : List ℕ} {r : ℕ × ℕ} → Two tidy w r → w ≡ soon.write r
    ones g = own.one (from tidy g)

    hass : {w : List ℕ} {r : ℕ × ℕ} → Two loose w r → Two tidy (soon.write r) r
    hass g = to tidy (own.has (from loose g))

-- both are faithful to the one grammar
pub late_faithful : Faithful Two late
late_faithful = faithful late_format

pub soon_faithful : Faithful Two soon
soon_faithful = faithful soon_format

-- both are final and open, and decide it, each with its own faults
pub late_decides : Decides Two (Fails nought_first (Number 1 then λ _. Number 1) (Along (Number 1) Clean (λ _. Clean))) late
late_decides = decides late_format (such_faults nought_first (then_format (number_format 1) λ _. number_format 1) (then_faults (number_format 1) (number_faults 1) λ _. number_faults 1))

pub soon_decides : Decides Two (Along (Such nought (Number 1)) (Fails nought (Number 1) Clean) (λ _. Clean)) soon
soon_decides = decides soon_format (then_faults (such_format bad_text nought (number_format 1)) (such_faults nought (number_format 1) (number_faults 1)) λ _. number_faults 1)

-- of the byte 1 alone the one answers END, the other TEXT
pub late_ends : Ends (late.read (1 ∷ []) 0)
unfolding after means field_at span_at number
late_ends = (1, refl)

pub soon_text : BadText (soon.read (1 ∷ []) 0)
unfolding after means field_at span_at number
soon_text = (0, refl)
