-- A row of numbers gone through by their index: the one at an index and those after it, and none after the last.
-- Assumes nothing.
use mathlib.Core.Path.{◌≡◌, refl, ap, ◌∙◌}
use mathlib.Core.List.{List, [], ◌∷◌}
use Prim.Native.Nat.{ℕ, ◌+◌, ◌-◌, ◌*◌, ◌≤◌, ◌<◌}
use native.Mathlib.Omega.{arith}
use lib.ListN.{take, drop}
use Rattle.layout.specs.Bytes.{number, cells}
use Rattle.wire.proofs.Texts.{cells_on, cells_nil}

-- those left at an index, as each place tells
abbrev pub left_at : ℕ → ℕ → List ℕ → ℕ → ℕ → List ℕ
left_at w n s at i = cells w (n - i) (drop (at + i * w) s)

module _ (w n : ℕ) (s : List ℕ) (at i : ℕ) where
  -- those after it, as a count and a place
  pub after_one : cells w (n - i - 1) (drop (at + i * w + w) s) ≡ left_at w n s at (i + 1)
  after_one =
      let less : n - i - 1 ≡ n - (i + 1) = omega arith in
      let there : at + i * w + w ≡ at + (i + 1) * w = omega arith in
      rw (less, there) refl

  pub one_more : i < n → left_at w n s at i ≡ number (take w (drop (at + i * w) s)) ∷ left_at w n s at (i + 1)
  one_more h = cells_on w (n - i) s (at + i * w) (omega arith) ∙ ap (λ l. number (take w (drop (at + i * w) s)) ∷ l) after_one

  pub none_more : n ≤ i → left_at w n s at i ≡ []
  none_more h = cells_nil w (n - i) (drop (at + i * w) s) (omega arith)
