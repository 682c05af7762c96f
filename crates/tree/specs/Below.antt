-- What the code of the folder view does: a place, then all that hangs below it, along chains of children. No public promise names this.
-- Assumes nothing.
use Rattle.std.specs.Prelude.{◌≡◌, Bool, List, [], ◌∷◌, ◌++◌, ℕ, zero, suc, ◌-◌, ◌≤◌, ◌<◌, length, get_or}
use Rattle.tree.specs.Kids.{kids}
use Rattle.tree.specs.Links.{chain}

-- what g says of each of a list, end to end
abbrev pub join : (ℕ → List ℕ) → List ℕ → List ℕ
join g [] = []
join g (x ∷ l) = g x ++ join g l

-- p and all below it, by at most f levels, where `held` says the children of a place
unfoldable pub under : ℕ → (ℕ → List ℕ) → ℕ → List ℕ
under zero held p = []
under (suc f) held p = p ∷ join (under f held) (held p)

-- ── by the links alone ──

-- the children of p
abbrev pub chained : List ℕ → List ℕ → ℕ → List ℕ
chained fs ns p = chain ns (get_or fs p 0)

-- p and all below it; all below it
unfoldable pub full : List ℕ → List ℕ → ℕ → List ℕ
full fs ns p = under (length fs - p) (chained fs ns) p

unfoldable pub inside : List ℕ → List ℕ → ℕ → List ℕ
inside fs ns p = join (full fs ns) (chained fs ns p)

-- each link is none, or leads to a later place
pub record Down (fs ns : List ℕ) : Type 0 where
  pub few : length fs ≤ 1024
  pub long : length ns ≡ length fs
  pub first_in : (p : ℕ) → p < length fs → get_or fs p 0 < length fs
  pub first_up : (p : ℕ) → p < length fs → (get_or fs p 0 ≡ 0 → ⊥) → p < get_or fs p 0
  pub next_in : (k : ℕ) → k < length fs → get_or ns k 0 < length fs
  pub next_up : (k : ℕ) → k < length fs → (get_or ns k 0 ≡ 0 → ⊥) → k < get_or ns k 0

-- ── by the parents ──

-- the root and all live places below it: there are at most 1,024 places, so there are no more levels
unfoldable pub view_of : List ℕ → (ℕ → Bool) → List ℕ
view_of ps has = under 1024 (kids ps has) 0
