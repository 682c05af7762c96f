-- What is sent with data is the Command and, behind it, the Data container; and the Command has as many bytes as is told.
-- Assumes nothing.
use Rattle.std.proofs.Common.{◌≡◌, ℕ, ◌+◌, ◌*◌, Bool, true, false, leb, List, ◌++◌, length, sym, refl, arith}
use Rattle.layout.specs.Answer.{bare, pick}
use Rattle.layout.specs.Refusals.{COUNT}
use Rattle.layout.specs.Written.{Said, says, no}
use Rattle.layout.proofs.laws.Numbers.{zero_one}
use Rattle.session.specs.Transaction.{together, with_data}
use Rattle.wire.specs.Container.{param_bytes, container_said, command_said}
use Rattle.wire.specs.declared.container.Command.{Command}
use Rattle.wire.proofs.laws.Contained.{params_long}
use Rattle.wire.proofs.laws.Sent.{container_size}
use Rattle.abi.specs.Sent.{command_end}

pub command_long : (c : Command) (number : ℕ) (w : List ℕ) → command_said c number ≡ says w → length w ≡ command_end c.count
unfolding command_said
command_long c number w e = go (leb c.count 5) e
  where
    go : (b : Bool) → pick b (container_said 1 c.code number (param_bytes c.count c.params)) (no (bare COUNT)) ≡ says w → length w ≡ 12 + 4 * pick b c.count 5
    go true f = omega (arith, container_size 1 c.code number (param_bytes c.count c.params) w f, params_long c.count c.params)
    go false f = zero_one (cc)

pub record TwoParts (c : Command) (payload : List ℕ) (number : ℕ) (w : List ℕ) : Type 0 where
  pub command : List ℕ
  pub payload_part : List ℕ
  pub first : command_said c number ≡ says command
  pub second : container_said 2 c.code number payload ≡ says payload_part
  pub whole : w ≡ command ++ payload_part
  pub till : length command ≡ command_end c.count

pub two_parts : (c : Command) (payload : List ℕ) (number : ℕ) (w : List ℕ) → with_data c payload number ≡ says w → TwoParts c payload number w
unfolding together
two_parts c payload number w e = go (command_said c number) refl (container_said 2 c.code number payload) refl e
  where
    go : (x : Said) → command_said c number ≡ x → (y : Said) → container_said 2 c.code number payload ≡ y → together x y ≡ says w → TwoParts c payload number w
    go (says a) f (says b) g h = record { command = a; payload_part = b; first = f; second = g; whole = sym (cc); till = command_long c number a f }
    go (says a) f (no t) g h = zero_one (cc)
    go (no t) f y g h = zero_one (cc)
