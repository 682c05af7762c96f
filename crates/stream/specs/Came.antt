-- What a read may give, and a write; and what a program may end with.
-- Assumes nothing.
use Rattle.std.specs.Prelude.{◌≡◌, Bool, true, List, ℕ, ◌≤◌, length, Option}
use Rattle.std.specs.Process.{exit_status}
use Rattle.std.specs.declared.process.ExitCode.{ExitCode}
use Rattle.std.specs.declared.result.Result.{Result}
use Rattle.std.specs.declared.result.Result.TheVariants.{Ok, Err}
use Rattle.stream.specs.declared.Stopped.{Stopped}
use Rattle.stream.specs.declared.Stopped.TheVariants.{Failed, Gone}

-- no more than there is room for; and where the read fails, that is a failure, never that a reader has gone away
abbrev pub within : ℕ → Result ℕ Stopped → Type 0
within room (Ok n) = n ≤ room
within room (Err e) = e ≡ Failed

-- where there are no bytes, all are written
abbrev pub at_once : List ℕ → Bool → Type 0
at_once bytes done = length bytes ≤ 0 → done ≡ true

-- what a program ends with by a turn's answer: 141 where the reader has gone away, else 0
abbrev pub status_of : {S : Type 0} → Result (Option S) Stopped → ℕ
status_of (Err Gone) = 141
status_of (Err Failed) = 0
status_of (Ok _) = 0

-- some turn answered what gives that status
abbrev pub Answered : {S F : Type 0} → (F → S → Result (Option S) Stopped → Type 0) → ℕ → Type 0
Answered {S} {F} post status = (f : F) × (s : S) × (r : Result (Option S) Stopped) × post f s r × (status ≡ status_of r)

-- a program ends by what some turn answered
abbrev pub EndsBy : {S F : Type 0} → (F → S → Result (Option S) Stopped → Type 0) → ExitCode → Type 0
EndsBy post code = Answered post (exit_status code)
