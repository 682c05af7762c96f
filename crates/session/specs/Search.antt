-- Looking for a transaction's answer: containers lie end to end, and its Response is the last that is read.
-- Assumes nothing.
use Rattle.std.specs.Prelude.{Ok, Err}
use Rattle.wire.specs.Read.{Read}
use Rattle.std.specs.Prelude.{ℕ, zero, suc, List, [], ◌∷◌, length, ◌==◌, nat_le}
use Rattle.layout.specs.Answer.{Answer, got, refused, Reader, pick, after, means, bare}
use Rattle.layout.specs.Refusals.{TID, NOPHASE}
use Rattle.wire.specs.Container.{container_at}
use Rattle.wire.specs.declared.Part.{Part}
use Rattle.wire.specs.declared.container.Container.{Container}
use Rattle.session.specs.declared.search.Found.{Found}
use Rattle.session.specs.declared.search.Found.TheVariants as found
use Rattle.session.specs.declared.search.Response.{Response}

-- ── the containers of a transaction ──

-- its Response, and those before it
pub record Phases : Type 0 where
  pub before : List Container
  pub response : Container

abbrev pub behind : Container → Phases → Phases
behind x r = record { before = x ∷ r.before; response = r.response }

-- a container by its own rules; then 7 for another transaction's
unfoldable pub phase_at : ℕ → Reader Container
phase_at number s at = after (container_at s at) λ x next. pick (x.number == number) (got x next) (refused (bare TID))

-- one after the other up to a Response (kind 3); 8 where no byte is left at a container's start.
-- Each takes some bytes, so that as many steps as there are bytes suffice
unfoldable pub phases_from : ℕ → ℕ → Reader Phases
phases_from zero number s at = refused (bare NOPHASE)
phases_from (suc n) number s at =
    pick (nat_le (length s) at)
    (refused (bare NOPHASE))
    (after (phase_at number s at) λ x next.
    pick (x.kind == 3) (got (record { before = []; response = x }) next) (means (behind x) (phases_from n number s next)))

-- ── the answer ──

-- Data's payload (kind 2) replaces any earlier one
abbrev pub newer : Part → Container → Part
newer last x = pick (x.kind == 2) x.payload last

unfoldable pub last_data : Part → List Container → Part
last_data last [] = last
last_data last (x ∷ xs) = last_data (newer last x) xs

-- without Data
abbrev pub no_data : Part
no_data = record { start = 0; count = 0 }

-- the payload that was asked for, or the code of a Response that is not Ok
pub data Reply : Type 0 where
  payload : Part → Reply
  response : ℕ → Reply

abbrev pub reply_to : ℕ → Part → Reply
reply_to code last = pick (code == 0x2001) (payload last) (response code)

abbrev pub reply_of : Part → Phases → Reply
reply_of last r = reply_to r.response.code (last_data last r.before)

-- with the place after the Response
unfoldable pub answer_in : ℕ → List ℕ → Answer Reply
answer_in number s = means (reply_of no_data) (phases_from (length s) number s 0)

abbrev pub reply_from : Found → Reply
reply_from (found.Payload p) = payload p
reply_from (found.Response code) = response code

abbrev pub says_found : Read Found → Answer Reply
says_found (Ok (r, c)) = got (reply_from r) c.at
says_found (Err t) = refused t

-- ── the Response itself ──

-- its code and its own payload, and the last Data payload before it
abbrev pub response_of : Phases → Response
response_of r = record { code = r.response.code; payload = r.response.payload; last = last_data no_data r.before }

unfoldable pub response_in : ℕ → List ℕ → Answer Response
response_in number s = means response_of (phases_from (length s) number s 0)
