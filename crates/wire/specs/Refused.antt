-- What is answered of a container's bytes, said with no reader: each refusal by its condition on the bytes, in the paper's order (1, 4, 1, 5, then 6),
-- and what is accepted. `d` is the bytes from a place on.
-- Only 1 and 6 are of the end: bytes that follow change no other answer, and after 1 and 6 some bytes give another.
-- Assumes nothing.
use Rattle.std.specs.Prelude.{◌⊎◌, List, ℕ, ◌+◌, ◌-◌, ◌<◌, length, take, drop}
use Rattle.layout.specs.Answer.{Answer, got, refused, end_at, bare}
use Rattle.layout.specs.Bytes.{number}
use Rattle.layout.specs.Refusals.{KIND, LENGTH, SIZE}
use Rattle.wire.specs.Tests.{◌gives◌else◌, Otherwise}
use Rattle.wire.specs.declared.container.Header.{Header}
use Rattle.wire.specs.declared.container.Container.{Container}

-- ── the four numbers of a header, in the bytes from its start on ──

abbrev pub announced : List ℕ → ℕ
announced d = number (take 4 d)

abbrev pub kind_in : List ℕ → ℕ
kind_in d = number (take 2 (drop 4 d))

abbrev pub code_in : List ℕ → ℕ
code_in d = number (take 2 (drop 6 d))

abbrev pub number_in : List ℕ → ℕ
number_in d = number (take 4 (drop 8 d))

-- ── the tests of a header that starts at a place, and what is said after them ──

abbrev pub HeaderTests : {A : Type 0} → ℕ → List ℕ → (Answer A → Type 0) → Answer A → Type 0
HeaderTests at d rest =
    length d < 4 gives refused (end_at at) else
    length d < 6 gives refused (end_at (at + 4)) else
    ((kind_in d < 1) ⊎ (4 < kind_in d)) gives refused (bare KIND) else
    length d < 8 gives refused (end_at (at + 6)) else
    length d < 12 gives refused (end_at (at + 8)) else
    announced d < 12 gives refused (bare LENGTH) else
    rest

abbrev pub header_in : List ℕ → Header
header_in d = record { kind = kind_in d; code = code_in d; number = number_in d; payload_len = announced d - 12 }

abbrev pub HeaderSays : ℕ → List ℕ → Answer Header → Type 0
HeaderSays at d = HeaderTests at d (Otherwise (got (header_in d) (at + 12)))

-- ── of a container, whose payload must be there ──

abbrev pub ContainerTests : {A : Type 0} → ℕ → List ℕ → (Answer A → Type 0) → Answer A → Type 0
ContainerTests at d rest =
    HeaderTests at d (
    length d < announced d gives refused (bare SIZE) else
    rest)

abbrev pub container_in : ℕ → List ℕ → Container
container_in at d = record { kind = kind_in d; code = code_in d; number = number_in d; payload = record { start = at + 12; count = announced d - 12 } }

abbrev pub ContainerSays : ℕ → List ℕ → Answer Container → Type 0
ContainerSays at d = ContainerTests at d (Otherwise (got (container_in at d) (at + announced d)))

-- ── bytes that follow ──

-- what is answered of more bytes: the same, unless it was 1 or 6
pub data Lasts {A : Type 0} : Answer A → Answer A → Type 0 where
  stays : {x : Answer A} → Lasts x x
  cut : (p : ℕ) {y : Answer A} → Lasts (refused (end_at p)) y
  unfinished : {y : Answer A} → Lasts (refused (bare SIZE)) y

-- an answer other than 1 and 6
pub data Settled {A : Type 0} : Answer A → Type 0 where
  accepted : {a : A} {n : ℕ} → Settled (got a n)
  no_kind : Settled (refused (bare KIND))
  too_low : Settled (refused (bare LENGTH))
