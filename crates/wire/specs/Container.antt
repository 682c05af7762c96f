-- Containers: u32 length of the whole, u16 kind, u16 code, u32 transaction number, payload.
-- Assumes nothing.
use Rattle.std.specs.Prelude.{Ok, Err}
use Rattle.wire.specs.Read.{Read}
use Rattle.std.specs.Prelude.{Bool, false, List, [], ◌++◌, ℕ, zero, suc, ◌+◌, ◌-◌, leb, length, get_or}
use Rattle.layout.specs.Answer.{Answer, got, refused, Reader, pick, after, bare}
use Rattle.layout.specs.Bytes.{bytes}
use Rattle.layout.specs.Written.{Said, says, no}
use Rattle.layout.specs.Refusals.{KIND, LENGTH, SIZE, COUNT}
use Rattle.wire.specs.Places.{num_at}
use Rattle.wire.specs.declared.container.Header.{Header}
use Rattle.wire.specs.declared.container.Container.{Container}
use Rattle.wire.specs.declared.container.Command.{Command}

-- 1 Command, 2 Data, 3 Response, 4 Event
unfoldable pub is_kind : ℕ → Bool
is_kind k = pick (leb 1 k) (leb k 4) false

-- ── reading ──

-- what follows a kind that is known; the length is tested last (5), and 12 is taken only from a length that has them
unfoldable pub header_rest : ℕ → ℕ → Reader Header
header_rest len kind s at =
    after (num_at 2 s at) λ code a.
    after (num_at 4 s a) λ number next.
    pick (leb 12 len) (got (record { kind = kind; code = code; number = number; payload_len = len - 12 }) next) (refused (bare LENGTH))

-- the kind is tested once its six bytes are there (4), before the rest is read
unfoldable pub header_at : Reader Header
header_at s at =
    after (num_at 4 s at) λ len a.
    after (num_at 2 s a) λ kind b.
    pick (is_kind kind) (header_rest len kind s b) (refused (bare KIND))

-- the header, and where the payload stands; bytes that stop before the announced length are 6
unfoldable pub container_at : Reader Container
container_at s at =
    after (header_at s at) λ h start.
    pick (leb h.payload_len (length s - start))
    (got (record { kind = h.kind; code = h.code; number = h.number; payload = record { start = start; count = h.payload_len } }) (start + h.payload_len))
    (refused (bare SIZE))

-- ── writing ──

unfoldable pub container_word : ℕ → ℕ → ℕ → List ℕ → List ℕ
container_word kind code number payload = bytes 4 (12 + length payload) ++ bytes 2 kind ++ bytes 2 code ++ bytes 4 number ++ payload

-- a kind that is none is 4; a payload whose container would pass 4,294,967,295 bytes is 10
unfoldable pub container_said : ℕ → ℕ → ℕ → List ℕ → Said
container_said kind code number payload =
    pick (is_kind kind) (pick (leb (length payload) 4294967283) (says (container_word kind code number payload)) (no (bare COUNT))) (no (bare KIND))

-- the first n of the parameters, four bytes each
unfoldable pub param_bytes : ℕ → List ℕ → List ℕ
param_bytes zero ps = []
param_bytes (suc n) ps = param_bytes n ps ++ bytes 4 (get_or ps n 0)

-- a Command container of the first `count` of the five; a count over five is 10
unfoldable pub command_said : Command → ℕ → Said
command_said c number = pick (leb c.count 5) (container_said 1 c.code number (param_bytes c.count c.params)) (no (bare COUNT))

-- ── this paper's values for each case ──
