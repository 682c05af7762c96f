-- A command with or without data, by the session's number, 0 where it is closed.
-- Assumes nothing.
use Rattle.std.specs.Prelude.{◌≡◌, ℕ, ◌+◌, ◌*◌, Bool, List, nat_le}
use Rattle.layout.specs.Answer.{Answer, got, refused, pick}
use Rattle.layout.specs.Written.{Said}
use Rattle.wire.specs.Container.{command_said}
use Rattle.wire.specs.declared.container.Command.{Command}
use Rattle.session.specs.Transaction.{Turn, with_data, Makes}
use Rattle.session.specs.declared.transaction.Session.{Session}

abbrev pub command_due : Bool → Command → List ℕ → ℕ → Said
command_due data? c payload = pick data? (with_data c payload) (command_said c)

abbrev pub session_at : ℕ → Session
session_at n = record { number = n }

-- the number of the session after the command, or as it was where it was refused
abbrev pub number_after : ℕ → Answer Turn → ℕ
number_after n (got t count) = t.next.number
number_after n (refused t) = n

-- what a command of this code answers and leaves, with the session's number n, and n' after it
pub record Sent (n code : ℕ) (said : ℕ → Said) (old : List ℕ) (n' : ℕ) (new : List ℕ) (answer : Answer Turn) : Type 0 where
  pub makes : Makes (session_at n) code said old answer new
  pub number : n' ≡ number_after n answer

-- ── two transfers ──

-- a Command has twelve bytes, and four for each of its parameters, of which there are five at most
abbrev pub command_end : ℕ → ℕ
command_end count = 12 + 4 * pick (nat_le count 5) count 5

-- where the Command ends and its Data begins; as it was where nothing was sent
abbrev pub end_after : ℕ → ℕ → Answer Turn → ℕ
end_after old end (got t count) = end
end_after old end (refused t) = old

-- sent, and told where it is parted
pub record Parts (n end code count : ℕ) (said : ℕ → Said) (old : List ℕ) (n' end' : ℕ) (new : List ℕ) (answer : Answer Turn) : Type 0 where
  pub sent : Sent n code said old n' new answer
  pub parted : end' ≡ end_after end (command_end count) answer
