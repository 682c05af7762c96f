-- How long what is sent is: a container has twelve bytes before its payload, and a command has five parameters at most.
-- Assumes nothing.
use mathlib.Core.Path.{◌≡◌, refl, ◌∙◌, ap}
use mathlib.Core.Bool.{Bool, true, false}
use mathlib.Core.List.{List}
use Prim.Native.Nat.{ℕ, ◌+◌, ◌≤◌}
use native.Mathlib.Omega.{arith}
use borrow.Author.Tests.{leb-true}
use lib.Dec.{leb}
use lib.ListN.{length}
use Rattle.layout.specs.Answer.{pick, bare}
use Rattle.layout.specs.Written.{says, no}
use Rattle.layout.proofs.laws.Numbers.{zero_one}
use Rattle.layout.specs.Refusals.{KIND, COUNT}
use Rattle.wire.specs.Container.{is_kind, container_word, container_said, param_bytes, command_said}
use Rattle.wire.specs.declared.container.Command.{Command}
use Rattle.wire.proofs.laws.Contained.{container_length, params_long}

pub container_size : (kind code number : ℕ) (payload w : List ℕ) → container_said kind code number payload ≡ says w → length w ≡ 12 + length payload
unfolding container_said
container_size kind code number payload w e = go (is_kind kind) (leb (length payload) 4294967283) e
  where
    go : (a b : Bool) → pick a (pick b (says (container_word kind code number payload)) (no (bare COUNT))) (no (bare KIND)) ≡ says w → length w ≡ 12 + length payload
    go true true f = let g : w ≡ container_word kind code number payload = cc in ap length g ∙ container_length kind code number payload
    go true false f = zero_one (cc)
    go false b f = zero_one (cc)

pub command_size : (c : Command) (number : ℕ) (w : List ℕ) → command_said c number ≡ says w → length w ≤ 32
unfolding command_said
command_size c number w e = go (leb c.count 5) refl e
  where
    go : (b : Bool) → leb c.count 5 ≡ b → pick b (container_said 1 c.code number (param_bytes c.count c.params)) (no (bare COUNT)) ≡ says w → length w ≤ 32
    go true h f =
        omega
        (arith, leb-true c.count 5 h, params_long c.count c.params, container_size 1 c.code number (param_bytes c.count c.params) w f)
    go false h f = zero_one (cc)
