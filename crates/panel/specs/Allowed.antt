-- What a description's form allows, by the readings alone: a value of the type, an integer as an integer. No reader and no machine word stands here.
-- Assumes nothing.
use Rattle.std.specs.Prelude.{◌≡◌, ℕ, List, ℤ, pos, ◌+ℤ◌, ◌*ℤ◌, ◌≤ℤ◌, ◌<ℤ◌}
use mathlib.Core.List.{Memᴰ}
use Rattle.wire.specs.Layout.{Val, num, int, nat, Form, range, list, no_form}

-- ── a range ──

-- the value is this integer, signed or not; no other value is one
pub data Integer : Val → ℤ → Type 0 where
  signed : {z : ℤ} → Integer (num (int z)) z
  unsigned : {n : ℕ} → Integer (num (nat n)) (pos n)

-- a whole number of steps above the minimum; with a step of 0 or below, one of the two ends
pub data Stepped (low high step : ℤ) : ℤ → Type 0 where
  steps : {v : ℤ} (k : ℕ) → pos 0 <ℤ step → v ≡ low +ℤ pos k *ℤ step → Stepped low high step v
  lowest : step ≤ℤ pos 0 → Stepped low high step low
  highest : step ≤ℤ pos 0 → Stepped low high step high

-- from the minimum to the maximum, so that a minimum above the maximum leaves nothing
pub record Ranged (low high step v : ℤ) : Type 0 where
  pub above : low ≤ℤ v
  pub below : v ≤ℤ high
  pub stepped : Stepped low high step v

-- ── every form ──

pub data Allowed : Form → Val → Type 0 where
  -- no form: every value of the type
  every : {v : Val} → Allowed no_form v
  -- a list: a value that is one of its members
  member : {vs : List Val} {v : Val} → Memᴰ v vs → Allowed (list vs) v
  -- a range: of integers
  between : {a b c v : Val} {low high step z : ℤ} → Integer a low → Integer b high → Integer c step → Integer v z → Ranged low high step z → Allowed (range a b c) v
