-- How many bytes an answer still needs: first by what bytes that follow can do to the answer, which decides the number; then by the containers.
-- Assumes nothing.
use Rattle.std.specs.Prelude.{◌≡◌, ℕ, ◌+◌, ◌-◌, ◌<◌, ◌≤◌, ◌⊎◌, List, ◌++◌, length, drop, ◌≢◌, nat_le}
use Rattle.layout.specs.Answer.{Answer, refused, pick, end_at, bare}
use Rattle.layout.specs.Bytes.{Bytes}
use Rattle.layout.specs.Refusals.{SIZE, NOPHASE}
use Rattle.wire.specs.Refused.{announced, kind_in, number_in}
use Rattle.wire.specs.declared.container.Container.{Container}
use Rattle.session.specs.Search.{Reply, answer_in}
use Rattle.session.specs.Answered.{Front}

-- ── by the answer ──

-- a refusal that bytes which follow may change: 1, 6 and 8
pub data Waits : Answer Reply → Type 0 where
  cut : (place : ℕ) → Waits (refused (end_at place))
  unfinished : Waits (refused (bare SIZE))
  no_response : Waits (refused (bare NOPHASE))

-- n is the least number of bytes that must follow s before anything can be said: fewer leave the answer open, whatever they are, and some n bytes settle it
pub record Needs (number : ℕ) (s : List ℕ) (n : ℕ) : Type 0 where
  pub fewer : (more : List ℕ) → length more < n → Waits (answer_in number (s ++ more))
  pub enough : (more : List ℕ) × Bytes more × (length more ≡ n) × (Waits (answer_in number (s ++ more)) → ⊥)

-- ── by the containers: d is the bytes from the first container on that is not whole ──

-- a container has the twelve bytes of its header, whatever length it announces
abbrev pub whole_in : List ℕ → ℕ
whole_in d = pick (nat_le 12 (announced d)) (announced d) 12

-- its six bytes are there and have a kind; the rest is not whole
pub record Cut (d : List ℕ) : Type 0 where
  pub six : 6 ≤ length d
  pub low : 1 ≤ kind_in d
  pub high : kind_in d ≤ 4
  pub short : length d < whole_in d

pub data Lacks (number : ℕ) (d : List ℕ) : ℕ → Type 0 where
  -- up to the six bytes with which a kind is judged
  head : length d < 6 → Lacks number d (6 - length d)
  -- up to its end, where the answer is settled: another's number, which may still come, or a Response
  rest : Cut d → (length d < 12) ⊎ ((number_in d ≢ number) ⊎ (kind_in d ≡ 3)) → Lacks number d (whole_in d - length d)
  -- one that is passed over: the kind of the next one too
  rest_and_head : Cut d → 12 ≤ length d → number_in d ≡ number → (kind_in d ≢ 3) → Lacks number d (whole_in d - length d + 6)

-- behind a front of whole containers
pub data Needed (number : ℕ) (s : List ℕ) : ℕ → Type 0 where
  nothing : (Waits (answer_in number s) → ⊥) → Needed number s 0
  bytes : {cs : List Container} {at n : ℕ} → Front number s 0 cs at → at ≤ length s → Lacks number (drop at s) n → Needed number s n
