-- What the promises of `write_container` and `write_command` name is what the paper has them write or refuse.
-- Assumes nothing.
use mathlib.Core.Path.{◌≡◌, refl, ap, sym, ◌∙◌}
use mathlib.Core.Bool.{Bool, true, false}
use mathlib.Core.Logic.{◌⊎◌, inl, inr}
use mathlib.Core.List.{List, [], ◌∷◌, ◌++◌, append_assoc, append-nil}
use Prim.Native.Nat.{ℕ, zero, suc, ◌≤◌, ◌<◌}
use native.Mathlib.Omega.{arith}
use borrow.Author.Tests.{leb-true, leb-false}
use lib.Dec.{leb}
use lib.ListN.{length, take, get_or}
use lib.Seq.{take-suc}
use Rattle.layout.specs.Answer.{pick, bare}
use Rattle.layout.specs.Bytes.{bytes}
use Rattle.layout.specs.Refusals.{KIND, COUNT}
use Rattle.layout.specs.Written.{says, no}
use Rattle.wire.specs.Container.{is_kind, container_word, container_said, param_bytes, command_said}
use Rattle.wire.specs.Packed.{ContainerWrites, fours, CommandWrites}
use Rattle.wire.specs.Tests.{holds, fails, otherwise}
use Rattle.wire.specs.declared.container.Command.{Command}

pub container_written : (kind code number : ℕ) (payload : List ℕ) → ContainerWrites kind code number payload (container_said kind code number payload)
unfolding is_kind container_word container_said
container_written kind code number payload = go (leb 1 kind) refl (leb kind 4) refl (leb (length payload) 4294967283) refl
  where
    within : 1 ≤ kind → kind ≤ 4 → (kind < 1) ⊎ (4 < kind) → ⊥
    within l h (inl k) = omega arith
    within l h (inr k) = omega arith

    go : (a : Bool) → leb 1 kind ≡ a → (b : Bool) → leb kind 4 ≡ b → (c : Bool) → leb (length payload) 4294967283 ≡ c
        → ContainerWrites kind code number payload (pick (pick a b false) (pick c (says (container_word kind code number payload)) (no (bare COUNT))) (no (bare KIND)))
    go false e b f c g = holds (inl (leb-false 1 kind e))
    go true e false f c g = holds (inr (leb-false kind 4 f))
    go true e true f false g = fails (within (leb-true 1 kind e) (leb-true kind 4 f)) (holds (leb-false (length payload) 4294967283 g))
    go true e true f true g =
        fails (within (leb-true 1 kind e) (leb-true kind 4 f)) (fails (λ h. omega (arith, leb-true (length payload) 4294967283 g)) otherwise)

-- one number more
fours_last : (ns : List ℕ) (n : ℕ) → fours (ns ++ n ∷ []) ≡ fours ns ++ bytes 4 n
fours_last [] n = append-nil (bytes 4 n)
fours_last (m ∷ ns) n = ap (λ l. bytes 4 m ++ l) (fours_last ns n) ∙ sym (append_assoc (bytes 4 m) (fours ns) (bytes 4 n))

params_so : (n : ℕ) (ps : List ℕ) → n ≤ length ps → param_bytes n ps ≡ fours (take n ps)
unfolding param_bytes
params_so zero ps h = refl
params_so (suc n) ps h =
    ap (λ l. l ++ bytes 4 (get_or ps n 0)) (params_so n ps (omega arith)) ∙ sym (fours_last (take n ps) (get_or ps n 0)) ∙ ap fours (sym (take-suc ps n 0 (omega arith)))

-- of a Command whose parameters are five numbers, as its type has them
pub command_written : (c : Command) (number : ℕ) → length c.params ≡ 5 → CommandWrites c number (command_said c number)
unfolding command_said
command_written c number five = go (leb c.count 5) refl
  where
    go : (b : Bool) → leb c.count 5 ≡ b → CommandWrites c number (pick b (container_said 1 c.code number (param_bytes c.count c.params)) (no (bare COUNT)))
    go false e = holds (leb-false c.count 5 e)
    go true e =
        let few = leb-true c.count 5 e in
        rw (params_so c.count c.params (omega (arith, few, five)))
        (fails (λ h. omega (arith, few)) (container_written 1 c.code number (fours (take c.count c.params))))
