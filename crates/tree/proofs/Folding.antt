-- The cycle of the folder view: chains of siblings step by step, and all below a place entry by entry.
-- Assumes nothing.
use mathlib.Core.Path.{◌≡◌, refl, sym, ap, ◌∙◌}
use mathlib.Core.List.{List, [], ◌∷◌, ◌++◌}
use Prim.Native.Nat.{ℕ, zero, suc, ◌+◌, ◌-◌, ◌≤◌, ◌<◌}
use native.Mathlib.Omega.{arith}
use borrow.Author.Tests.{eq-eqb, ne_eqb}
use lib.ListN.{length, get_or}
use Rattle.tree.specs.Links.{chain_in, chain}
use Rattle.tree.specs.Below.{join, under, chained, full, inside, Down}
use Rattle.tree.proofs.laws.Chains.{chain_zero, chain_some}
use Rattle.tree.proofs.laws.Counts.{equal}

module _ {fs ns : List ℕ} (down : Down fs ns) where
  -- more steps than needed change nothing
  fuel : (f g k : ℕ) → length fs ≤ k + f → length fs ≤ k + g → k < length fs → chain_in f ns k ≡ chain_in g ns k
  fuel zero g k h j l = absurd (omega arith)
  fuel (suc f) zero k h j l = absurd (omega arith)
  fuel (suc f) (suc g) k h j l =
      equal k 0
      (λ e. chain_zero (suc f) ns k e ∙ sym (chain_zero (suc g) ns k e))
      (λ e. chain_some f ns k e
      ∙ ap (λ (w : List ℕ). k ∷ w)
      (equal (get_or ns k 0) 0
      (λ z. chain_zero f ns (get_or ns k 0) z ∙ sym (chain_zero g ns (get_or ns k 0) z))
      (λ z. let r = down.next_up k l z in fuel f g (get_or ns k 0) (omega arith) (omega arith) (down.next_in k l)))
      ∙ sym (chain_some g ns k e))

  pub chain_step : (k : ℕ) → (k ≡ 0 → ⊥) → k < length fs → chain ns k ≡ k ∷ chain ns (get_or ns k 0)
  chain_step k e l =
      let n = down.long in
      let m : length ns ≡ suc (length ns - 1) = omega arith in
      ap (λ (f : ℕ). chain_in f ns k) m ∙ chain_some (length ns - 1) ns k e
      ∙ ap (λ (w : List ℕ). k ∷ w)
      (equal (get_or ns k 0) 0
      (λ z. chain_zero (length ns - 1) ns (get_or ns k 0) z ∙ sym (chain_zero (length ns) ns (get_or ns k 0) z))
      (λ z. fuel (length ns - 1) (length ns) (get_or ns k 0) (omega arith) (omega arith) (down.next_in k l)))

  -- ── along a chain of places behind p ──

  along : (g h : ℕ → List ℕ) (p : ℕ) → ((c : ℕ) → p < c → c < length fs → g c ≡ h c) → (m k : ℕ) → k < length fs → ((k ≡ 0 → ⊥) → p < k)
      → join g (chain_in m ns k) ≡ join h (chain_in m ns k)
  unfolding chain_in
  along g h p same zero k l up = refl
  along g h p same (suc m) k l up =
      equal k 0
      (λ e. rw (eq-eqb k 0 e))
      (λ e. let behind = up e in
      rw (ne_eqb k 0 e)
      (ap (λ (w : List ℕ). w ++ join g (chain_in m ns (get_or ns k 0))) (same k behind l)
      ∙ ap (λ (w : List ℕ). h k ++ w) (along g h p same m (get_or ns k 0) (down.next_in k l) (λ z. let r = down.next_up k l z in omega arith))))

  below : (g h : ℕ → List ℕ) (p : ℕ) → p < length fs → ((c : ℕ) → p < c → c < length fs → g c ≡ h c) → join g (chained fs ns p) ≡ join h (chained fs ns p)
  below g h p l same = along g h p same (length ns) (get_or fs p 0) (down.first_in p l) (down.first_up p l)

  -- more levels than needed change nothing
  levels : (f g p : ℕ) → length fs ≤ p + f → length fs ≤ p + g → p < length fs → under f (chained fs ns) p ≡ under g (chained fs ns) p
  unfolding under
  levels zero g p h j l = absurd (omega arith)
  levels (suc f) zero p h j l = absurd (omega arith)
  levels (suc f) (suc g) p h j l =
      ap (λ (w : List ℕ). p ∷ w) (below (under f (chained fs ns)) (under g (chained fs ns)) p l (λ c s m. levels f g c (omega arith) (omega arith) m))

  pub full_step : (p : ℕ) → p < length fs → full fs ns p ≡ p ∷ inside fs ns p
  unfolding full inside under
  full_step p l =
      let m : length fs - p ≡ suc (length fs - suc p) = omega arith in
      rw m
      (ap (λ (w : List ℕ). p ∷ w)
      (below (under (length fs - suc p) (chained fs ns)) (λ c. under (length fs - c) (chained fs ns) c) p l
      (λ c s i. levels (length fs - suc p) (length fs - c) c (omega arith) (omega arith) i)))

  -- ── what is left to be listed from k on ──

  pub left_hit : (k : ℕ) → (k ≡ 0 → ⊥) → k < length fs → join (full fs ns) (chain ns k) ≡ full fs ns k ++ join (full fs ns) (chain ns (get_or ns k 0))
  left_hit k e l = ap (join (full fs ns)) (chain_step k e l)

pub left_none : (fs ns : List ℕ) (k : ℕ) → k ≡ 0 → join (full fs ns) (chain ns k) ≡ []
left_none fs ns k e = ap (join (full fs ns)) (chain_zero (length ns) ns k e)

pub left_start : (fs ns : List ℕ) (p : ℕ) → inside fs ns p ≡ join (full fs ns) (chain ns (get_or fs p 0))
unfolding inside
left_start fs ns p = refl
