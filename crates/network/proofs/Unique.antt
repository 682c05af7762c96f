-- What the answers of `network` say determines them; so each promise allows one answer, and one output.
-- Assumes nothing.
use Rattle.wire.proofs.laws.Unique.{tells_read}
use Rattle.layout.specs.Answer.{says_count}
use Rattle.std.specs.Prelude.{Ok, Err}
use Rattle.std.specs.declared.result.Result.{Result}
use Rattle.wire.specs.Read.{Read, says_read}
use Rattle.layout.specs.declared.Refusal.{Refusal}
use mathlib.Core.Path.{◌≡◌, refl}
use mathlib.Core.List.{List}
use Prim.Native.Nat.{ℕ}
use Rattle.layout.specs.Answer.{Answer, got, refused}
use Rattle.layout.specs.Written.{Wrote}
use Rattle.layout.proofs.laws.Determined.{reads_one, one_written}
use Rattle.network.specs.Packet.{packet_at}
use Rattle.network.specs.Translated.{to_said, from_said}
use Rattle.network.specs.declared.packet.Packet.{Packet}
use Rattle.network.specs.declared.translate.Direction.{Direction}

module _ (s : List ℕ) where
  pub one_packet : (at : ℕ) (x y : Read Packet) → says_read x ≡ packet_at s at → says_read y ≡ packet_at s at → x ≡ y
  one_packet at = reads_one tells_read (packet_at s at)

  pub one_to : (d : Direction) (old new new' : List ℕ) (x y : Result ℕ Refusal) → Wrote (to_said d s) old (says_count x) new → Wrote (to_said d s) old (says_count y) new' → (x ≡ y) × (new ≡ new')
  one_to d = one_written (to_said d s)

  pub one_from : (old new new' : List ℕ) (x y : Result ℕ Refusal) → Wrote (from_said s) old (says_count x) new → Wrote (from_said s) old (says_count y) new' → (x ≡ y) × (new ≡ new')
  one_from = one_written (from_said s)
