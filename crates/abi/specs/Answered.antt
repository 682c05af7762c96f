-- What every exported function answers: how many numbers or bytes it gave, or minus (its refusal's number and 256 times its place); and what it leaves.
-- Assumes nothing.
use Rattle.std.specs.Prelude.{◌≡◌, ℕ, ◌+◌, ◌-◌, ◌*◌, ◌%◌, ◌^◌, List, ◌∷◌, nat_le}
use Rattle.layout.specs.Answer.{Told, Answer, got, refused, pick}
use Rattle.layout.specs.Written.{Said, says, no, Wrote}

-- the farthest place that is told, 2^55 - 1: no bytes that are lent have one there, and with it a refusal is below 0 as a signed word
abbrev pub farthest : ℕ
farthest = 36028797018963967

abbrev pub number_and_place : Told → ℕ
number_and_place t = 256 * pick (nat_le t.at farthest) t.at farthest + t.no

-- minus as a word of 64 bits has it
unfoldable pub word : {A : Type 0} → Answer A → ℕ
word (got a n) = n
word (refused t) = (2 ^ 64 - number_and_place t) % 2 ^ 64

-- an answer that is allowed, as its word
pub record Tells {A : Type 0} (allowed : Answer A → Type 0) (r : ℕ) : Type 0 where
  pub answer : Answer A
  pub allows : allowed answer
  pub told : r ≡ word answer

-- of what is written to one place, numbers or bytes: the one rule of every writer, 9 among it
abbrev pub Gives : Said → List ℕ → ℕ → List ℕ → Type 0
Gives said old r new = Tells (λ a. Wrote said old a new) r

-- a reading as numbers: the place after it, then its own
abbrev pub given : {A : Type 0} → (A → List ℕ) → Answer A → Said
given row (got a n) = says (n ∷ row a)
given row (refused t) = no t
