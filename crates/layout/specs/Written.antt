-- What a writer has to say, and the one rule of every writer.
-- Assumes nothing.
use Rattle.std.specs.Prelude.{Ok, Err}
use Rattle.std.specs.declared.result.Result.{Result}
use Rattle.layout.specs.declared.Refusal.{Refusal}
use Rattle.std.specs.Prelude.{◌≡◌, Bool, true, false, List, [], ◌++◌, ℕ, ◌+◌, ◌-◌, leb, length, drop}
use Rattle.std.proofs.lemmas.List.Edits.{sets}
use Rattle.layout.specs.Answer.{Told, Answer, got, refused, Reader, bare, pick, means}
use Rattle.layout.specs.Codec.{Codec}
use Rattle.layout.specs.Refusals.{ROOM}

-- a function of the writer's inputs alone: the bytes that are due, or the refusal
pub data Said : Type 0 where
  says : List ℕ → Said
  no : Told → Said

-- the tidy word of what is read at a place, with the place after what was read
abbrev pub word_at : {R : Type 0} → Codec R → Reader (List ℕ)
word_at F s at = means F.write (F.read s at)

unfoldable pub said_of : Answer (List ℕ) → Said
said_of (got bs n) = says bs
said_of (refused t) = no t

-- of a word that was read: whether it was, and its bytes
abbrev pub took : Answer (List ℕ) → Bool
took (got bs next) = true
took (refused t) = false

abbrev pub spelling : Answer (List ℕ) → List ℕ
spelling (got bs next) = bs
spelling (refused t) = []

-- what a tidy writer has to say, from bytes that begin with a word
abbrev pub tidied : {R : Type 0} → Codec R → List ℕ → Said
tidied F s = said_of (word_at F s 0)

-- what it answers: how many bytes it wrote, as the place after them, or why none; and what it leaves.
-- A refusal, or too little room (9), changes no byte; else the bytes stand at the front, and all past them is as it was
unfoldable pub answer_of : Said → List ℕ → Answer (Unit {0})
answer_of (no t) out = refused t
answer_of (says bs) out = pick (leb (length bs) (length out)) (got tt (length bs)) (refused (bare ROOM))

unfoldable pub left_of : Said → List ℕ → List ℕ
left_of (no t) out = out
left_of (says bs) out = pick (leb (length bs) (length out)) (bs ++ drop (length bs) out) out

pub record Wrote (s : Said) (old : List ℕ) (answer : Answer (Unit {0})) (new : List ℕ) : Type 0 where
  pub answers : answer ≡ answer_of s old
  pub leaves : new ≡ left_of s old

-- ── inside a writer ──

-- out with bs stored from a place on
unfoldable pub put : List ℕ → ℕ → List ℕ → List ℕ
put out at bs = sets out at bs

-- one step of a row of writes: new is old with bs from a place on, and next is the place after them
pub record Put (old : List ℕ) (at : ℕ) (bs new : List ℕ) (next : ℕ) : Type 0 where
  pub bytes : new ≡ put old at bs
  pub place : next ≡ at + length bs

-- the bytes bs where all of them have room in out from a place on, else none
unfoldable pub roomed : List ℕ → ℕ → List ℕ → List ℕ
roomed out at bs = pick (leb (length bs) (length out - at)) bs []
