-- Transactions: the numbers that commands use, and what is sent.
-- Assumes nothing.
use Rattle.std.specs.Prelude.{◌≡◌, ℕ, ◌+◌, List, ◌++◌, ◌==◌, nat_lt}
use Rattle.layout.specs.Answer.{Answer, got, refused, means, pick}
use Rattle.layout.specs.Written.{Said, says, no, Wrote}
use Rattle.wire.specs.Container.{container_said, command_said}
use Rattle.wire.specs.declared.container.Command.{Command}
use Rattle.session.specs.Calls.{open_session, close_session}
use Rattle.session.specs.declared.transaction.Session.{Session}
use Rattle.session.specs.declared.transaction.Made.{Made}
use Rattle.std.specs.Prelude.{Ok, Err}
use Rattle.std.specs.declared.result.Result.{Result}
use Rattle.layout.specs.declared.Refusal.{Refusal}

-- ── numbers ──

-- a session's state is one number: 0 where it is closed, as a fresh one is, else the next command's
abbrev pub fresh_session : Session
fresh_session = record { number = 0 }

-- the last number that a session gives by itself: 4,294,967,295 is no transaction's
abbrev pub last_number : ℕ
last_number = 4294967294

-- the number that a command of this code is sent with: the state, but OpenSession belongs to no session and has 0
unfoldable pub number_sent : ℕ → ℕ → ℕ
number_sent state code = pick (code == open_session.code) 0 state

-- the rule of the next number, and the first row that fits decides: OpenSession opens; a closed session stays closed; CloseSession closes;
-- any other counts one more, and after the last comes 1
unfoldable pub next_number : ℕ → ℕ → ℕ
next_number state code =
    pick (code == open_session.code) 1
    (pick (state == 0) 0
    (pick (code == close_session.code) 0
    (pick (nat_lt state last_number) (state + 1) 1)))

-- the number that a command of this code uses, and the session after it
pub record Turn : Type 0 where
  pub number : ℕ
  pub next : Session

abbrev pub turn : Session → ℕ → Turn
turn x code = record { number = number_sent x.number code; next = record { number = next_number x.number code } }

-- ── what is sent ──

-- one behind the other: a refusal of either, so that 9 is for both together
unfoldable pub together : Said → Said → Said
together (says a) (says b) = says (a ++ b)
together (says a) (no t) = no t
together (no t) x = no t

-- a command, and behind it a Data container (kind 2) of its code and number
abbrev pub with_data : Command → List ℕ → ℕ → Said
with_data c payload number = together (command_said c number) (container_said 2 c.code number payload)

-- ── what is answered ──

abbrev pub says_made : Result Made Refusal → Answer Turn
says_made (Ok m) = got (record { number = m.number; next = m.next }) m.count
says_made (Err t) = refused t

-- a writer's answer, and what it leaves, for the bytes that are due by the number that a command of this code uses;
-- where they were written the answer has the turn as well, and a refusal has none
pub record Makes (x : Session) (code : ℕ) (said : ℕ → Said) (old : List ℕ) (answer : Answer Turn) (new : List ℕ) : Type 0 where
  pub written : Answer (Unit {0})
  pub wrote : Wrote (said (turn x code).number) old written new
  pub answers : answer ≡ means (λ _. turn x code) written
