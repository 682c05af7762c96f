-- Which codes have a name, and which name, of the functions' own answers: `r` is any answer that the promise allows. The first and the last of each table are computed.
-- Assumes nothing.
use mathlib.Core.Path.{◌≡◌, refl, ap, ◌∙◌}
use mathlib.Core.Bool.{Bool, true, false}
use mathlib.Core.List.{List}
use mathlib.Core.Logic.{◌↔◌, ◌⊎◌, inl, inr}
use mathlib.Core.Option.{Option, none, some}
use Prim.Native.Nat.{ℕ, ◌+◌, ◌-◌, ◌≤◌, ◌<◌}
use Prim.Native.String.{String}
use native.Mathlib.Omega.{arith}
use borrow.Author.Tests.{leb-true, leb-false, ltb-true, ltb-false}
use lib.Dec.{leb, ltb}
use Rattle.layout.specs.Answer.{pick}
use Rattle.layout.proofs.laws.Numbers.{zero_one}
use Rattle.names.specs.Names.{responses, commands, spelled, given, entry_of, response_name, command_name, response_place, command_place}
use Rattle.names.specs.Says.{says_name, bytes_at}
use Rattle.std.specs.declared.option.Option as declared
use Rattle.names.specs.declared.Name.{Name}
use Rattle.names.proofs.laws.Spells.{response_spells, command_spells}

nameless : {A : Type 0} (f : ℕ → A) (base n code : ℕ) → given f (entry_of base n code) ≡ none ↔ ((code < base) ⊎ (base + n ≤ code))
unfolding entry_of
nameless f base n code = go (leb base code) refl (ltb (code - base) n) refl
  where
    inside : base ≤ code → code - base < n → (code < base) ⊎ (base + n ≤ code) → ⊥
    inside l h (inl k) = omega arith
    inside l h (inr k) = omega arith

    go : (a : Bool) → leb base code ≡ a → (b : Bool) → ltb (code - base) n ≡ b → given f (pick a (pick b (some (code - base)) none) none) ≡ none ↔ ((code < base) ⊎ (base + n ≤ code))
    go false e b g = (λ _. inl (leb-false base code e), λ _. refl)
    go true e true g = (λ h. zero_one (cc), λ h. absurd (inside (leb-true base code e) (ltb-true (code - base) n g) h))
    go true e false g = (λ _. inr (omega (arith, leb-true base code e, ltb-false (code - base) n g)), λ _. refl)

module _ (code : ℕ) (r : declared.Option Name) where
  -- no name exactly for the codes that the table has not
  pub response_none : says_name r ≡ response_place code → says_name r ≡ none ↔ ((code < 0x2000) ⊎ (0x2020 < code))
  unfolding response_place responses
  response_none promised = rw promised (nameless _ 0x2000 33 code)

  pub command_none : says_name r ≡ command_place code → says_name r ≡ none ↔ ((code < 0x1000) ⊎ (0x101C < code))
  unfolding command_place commands
  command_none promised = rw promised (nameless _ 0x1000 29 code)

  -- what stands at the place is the name
  pub response_spelled : says_name r ≡ response_place code → given bytes_at (says_name r) ≡ response_name code
  response_spelled promised = ap (given bytes_at) promised ∙ response_spells code

  pub command_spelled : says_name r ≡ command_place code → given bytes_at (says_name r) ≡ command_name code
  command_spelled promised = ap (given bytes_at) promised ∙ command_spells code

-- ── the first two and the last of each table ──

abbrev Named : Option (List ℕ) → String → Type 0
Named n name = n ≡ some (spelled name)

pub response_limits : Named (response_name 0x2000) "Undefined" × Named (response_name 0x2001) "Ok" × Named (response_name 0x2020) "SpecificationOfDestinationUnsupported"
unfolding response_name responses entry_of
response_limits = (refl, refl, refl)

pub command_limits : Named (command_name 0x1000) "Undefined" × Named (command_name 0x1001) "GetDeviceInfo" × Named (command_name 0x101C) "InitiateOpenCapture"
unfolding command_name commands entry_of
command_limits = (refl, refl, refl)
