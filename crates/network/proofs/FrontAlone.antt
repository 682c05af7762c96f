-- The packets before the response do not depend on it: a controller sends before it is answered.
-- Assumes nothing.
use mathlib.Core.Path.{◌≡◌, refl}
use mathlib.Core.List.{List, ◌++◌}
use Prim.Native.Nat.{ℕ, ◌^◌, ◌<◌}
use Rattle.layout.specs.Written.{says}
use Rattle.wire.specs.Container.{container_word}
use Rattle.network.specs.Packet.{packet_word}
use Rattle.network.specs.Transaction.{Transaction, Params, Fits, front_containers, containers_word, front_packets, tidy_word}
use Rattle.network.specs.Translated.{to_said}
use Rattle.network.specs.declared.translate.Direction.{Direction}
use Rattle.network.proofs.ToComplete.{to_complete}

-- with any Response of its number behind them, the packets before the response are the same
pub front_alone : (d : Direction) (t : Transaction) → Fits t → (response : ℕ) (results : List ℕ) → response < 256 ^ 2 → Params results →
    to_said d (front_containers t ++ container_word 3 response t.number results) ≡ says (front_packets d t ++ packet_word 7 0 response t.number 0 results)
unfolding containers_word tidy_word
front_alone d t f response results a r =
    let u : Transaction = record { code = t.code; number = t.number; params = t.params; payload = t.payload; response = response; results = results } in
    to_complete d (front_containers t ++ container_word 3 response t.number results) u (record { fits = record { code = f.code; number = f.number; params = f.params; payload = f.payload; response = a; results = r }; word = refl })
