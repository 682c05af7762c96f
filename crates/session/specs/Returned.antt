-- What was sent is found again: what the search must answer of bytes s that hold what was sent, and behind it a Response.
-- Assumes nothing.
use Rattle.std.specs.Prelude.{◌≡◌, ℕ, List}
use Rattle.layout.specs.Answer.{Answer, got}
use Rattle.wire.specs.Returned.{part_of}
use Rattle.wire.specs.declared.Part.{Part}
use Rattle.session.specs.Search.{Reply, reply_to}

-- the Response's code is told, and for Ok a part whose bytes are the payload; n is the place after the Response
pub record Replies (code : ℕ) (payload s : List ℕ) (n : ℕ) (x : Answer Reply) : Type 0 where
  pub part : Part
  pub answer : x ≡ got (reply_to code part) n
  pub holds : part_of s part ≡ payload
