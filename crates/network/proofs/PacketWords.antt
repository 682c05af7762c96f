-- The five words, byte by byte, as the paper has them: what a kind has not takes no bytes.
-- Assumes nothing.
use mathlib.Core.Path.{◌≡◌, refl}
use mathlib.Core.List.{List, [], ◌++◌, append-nil}
use Prim.Native.Nat.{ℕ, ◌+◌}
use lib.ListN.{length}
use Rattle.layout.specs.Bytes.{bytes}
use Rattle.network.specs.Packet.{phase_size, code_size, total_size, packet_word}
use Rattle.network.specs.Transaction.{start_word, end_word}

no_bytes : (x : ℕ) → bytes 0 x ≡ []
unfolding bytes
no_bytes x = refl

pub request_bytes : (phase code number : ℕ) (params : List ℕ) → packet_word 6 phase code number 0 params ≡ bytes 4 (18 + length params) ++ bytes 4 6 ++ bytes 4 phase ++ bytes 2 code ++ bytes 4 number ++ params
unfolding packet_word phase_size code_size total_size
request_bytes phase code number params = simp (no_bytes, append-nil)

pub response_bytes : (code number : ℕ) (params : List ℕ) → packet_word 7 0 code number 0 params ≡ bytes 4 (14 + length params) ++ bytes 4 7 ++ bytes 2 code ++ bytes 4 number ++ params
unfolding packet_word phase_size code_size total_size
response_bytes code number params = simp (no_bytes, append-nil)

pub start_data_bytes : (number total : ℕ) → start_word number total ≡ bytes 4 20 ++ bytes 4 9 ++ bytes 4 number ++ bytes 8 total
unfolding packet_word phase_size code_size total_size
start_data_bytes number total = simp (no_bytes, append-nil)

pub data_bytes : (number : ℕ) (d : List ℕ) → packet_word 10 0 0 number 0 d ≡ bytes 4 (12 + length d) ++ bytes 4 10 ++ bytes 4 number ++ d
unfolding packet_word phase_size code_size total_size
data_bytes number d = simp (no_bytes, append-nil)

pub end_data_bytes : (number : ℕ) (d : List ℕ) → end_word number d ≡ bytes 4 (12 + length d) ++ bytes 4 12 ++ bytes 4 number ++ d
unfolding packet_word phase_size code_size total_size
end_data_bytes number d = simp (no_bytes, append-nil)
