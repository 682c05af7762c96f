-- What the writers of a container and of a Command have to say, in the paper's order: each refusal by its condition on what is given, and what is written.
-- Assumes nothing.
use Rattle.std.specs.Prelude.{◌⊎◌, List, [], ◌∷◌, ◌++◌, ℕ, ◌+◌, ◌<◌, length, take}
use Rattle.layout.specs.Answer.{bare}
use Rattle.layout.specs.Bytes.{bytes}
use Rattle.layout.specs.Refusals.{KIND, COUNT}
use Rattle.layout.specs.Written.{Said, says, no}
use Rattle.wire.specs.Tests.{◌gives◌else◌, Otherwise}
use Rattle.wire.specs.declared.container.Command.{Command}

-- u32 length of the whole, u16 kind, u16 code, u32 transaction number, payload
abbrev pub ContainerWrites : ℕ → ℕ → ℕ → List ℕ → Said → Type 0
ContainerWrites kind code number payload =
    ((kind < 1) ⊎ (4 < kind)) gives no (bare KIND) else
    4294967283 < length payload gives no (bare COUNT) else
    Otherwise (says (bytes 4 (12 + length payload) ++ bytes 2 kind ++ bytes 2 code ++ bytes 4 number ++ payload))

-- numbers in four bytes each, one after the other
abbrev pub fours : List ℕ → List ℕ
fours [] = []
fours (n ∷ ns) = bytes 4 n ++ fours ns

-- a Command's payload is the first `count` of its parameters
abbrev pub CommandWrites : Command → ℕ → Said → Type 0
CommandWrites c number =
    5 < c.count gives no (bare COUNT) else
    ContainerWrites 1 c.code number (fours (take c.count c.params))
