-- Live places with one parent, from a place on; and a chain of siblings, each link of which names where the rest starts.
-- Assumes nothing.
use mathlib.Core.Path.{◌≡◌, refl, sym, ap, ◌∙◌}
use mathlib.Core.Bool.{Bool, true, false, ◌&&◌, and-eq-true_iff}
use mathlib.Core.List.{List, [], ◌∷◌}
use Prim.Native.Nat.{ℕ, zero, suc, ◌+◌, ◌-◌, ◌≤◌, ◌<◌}
use native.Mathlib.Omega.{arith}
use borrow.Author.Tests.{eq-eqb, ne_eqb, eqb-true, le-leb, leb-true, leb-false}
use lib.Dec.{eqb, leb}
use lib.ListN.{length, get_or}
use Rattle.tree.specs.Facts.{Ruled}
use Rattle.tree.specs.Table.{parent}
use Rattle.tree.specs.Kids.{hangs, kids_in, kids}
use Rattle.tree.specs.Links.{Child, Lowest, lowest, nobody, chain_in, first_of, from, Linking}
use Rattle.tree.proofs.laws.Below.{clash}
use Rattle.tree.proofs.laws.Counts.{equal}

-- ── from a place on ──

module _ (ps : List ℕ) (has : ℕ → Bool) (k : ℕ) (l : k < length ps) where
  pub from_hit : (p : ℕ) → hangs ps has p k ≡ true → from ps has k p ≡ k ∷ from ps has (suc k) p
  unfolding from kids_in
  from_hit p e = let m : length ps - k ≡ suc (length ps - suc k) = omega arith in rw (m, e)

  pub from_miss : (p : ℕ) → hangs ps has p k ≡ false → from ps has k p ≡ from ps has (suc k) p
  unfolding from kids_in
  from_miss p e = let m : length ps - k ≡ suc (length ps - suc k) = omega arith in rw (m, e)

pub from_none : (ps : List ℕ) (has : ℕ → Bool) (k p : ℕ) → length ps ≤ k → from ps has k p ≡ []
unfolding from kids_in
from_none ps has k p h = let m : length ps - k ≡ 0 = omega arith in rw m

off : (b : Bool) {c : Bool} → c ≡ false → (b && c) ≡ false
off true e = e
off false e = refl

-- a parent is before its children, so from 1 on or from behind the parent on is the same
from_up : (ps : List ℕ) → Ruled ps → (has : ℕ → Bool) (p d k : ℕ) → suc p - k ≡ d → 0 < k → k ≤ suc p → from ps has k p ≡ from ps has (suc p) p
from_up ps rule has p zero k e s h = let q : k ≡ suc p = omega arith in rw q
from_up ps rule has p (suc d) k e s h = by (leb (suc k) (length ps)) refl (from_up ps rule has p d (suc k) (omega arith) (omega arith) (omega arith))
  where
    by : (b : Bool) → leb (suc k) (length ps) ≡ b → from ps has (suc k) p ≡ from ps has (suc p) p → from ps has k p ≡ from ps has (suc p) p
    by true q r =
        let l : k < length ps = leb-true (suc k) (length ps) q in
        let less = rule.smaller k s l in
        from_miss ps has k l p (off (has k) (ne_eqb (parent ps k) p (λ z. omega arith))) ∙ r
    by false q r =
        let l = leb-false (suc k) (length ps) q in
        from_none ps has k p (omega arith) ∙ sym (from_none ps has (suc p) p (omega arith))

pub from_kids : (ps : List ℕ) → Ruled ps → (has : ℕ → Bool) (p : ℕ) → from ps has 1 p ≡ kids ps has p
unfolding from kids
from_kids ps rule has p = from_up ps rule has p (suc p - 1) 1 refl (omega arith) (omega arith)

-- ── the lowest of them ──

pub lowest_one : {ps : List ℕ} {has : ℕ → Bool} {p m a b : ℕ} → Lowest ps has p m a → Lowest ps has p m b → a ≡ b
lowest_one {a = a} {b = b} (lowest c f) (lowest d g) = let x = f b d in let y = g a c in omega arith
lowest_one {a = a} (lowest c f) (nobody g) = absurd (g a c)
lowest_one {b = b} (nobody f) (lowest d g) = absurd (f b d)
lowest_one (nobody f) (nobody g) = refl

hung : {ps : List ℕ} {has : ℕ → Bool} {p m x : ℕ} → Child ps has p m x → hangs ps has p x ≡ true
hung {ps} {has} {p} {m} {x} c = rw (c.living, eq-eqb (parent ps x) p c.up)

module _ (ps : List ℕ) (has : ℕ → Bool) (place : (k : ℕ) → has k ≡ true → k < length ps) (p : ℕ) where
  later : (m : ℕ) → hangs ps has p m ≡ false → (x : ℕ) → Child ps has p m x → Child ps has p (suc m) x
  later m e x d = record {
    least = equal x m (λ q. absurd (clash (hangs ps has p x) (hung d) (rw q e))) (λ q. let h = d.least in omega arith);
    living = d.living;
    up = d.up;
  }

  lowest_on : (m : ℕ) → hangs ps has p m ≡ false → {k : ℕ} → Lowest ps has p (suc m) k → Lowest ps has p m k
  lowest_on m e {k} (lowest c f) =
      lowest {k = k} (record { least = let h = c.least in omega arith; living = c.living; up = c.up }) (λ x d. f x (later m e x d))
  lowest_on m e (nobody f) = nobody (λ x d. f x (later m e x d))

  lowest_by : (d m : ℕ) → length ps - m ≡ d → Lowest ps has p m (first_of (from ps has m p))
  lowest_by zero m e = rw (from_none ps has m p (omega arith)) (nobody (λ x c. let h = place x c.living in let l = c.least in omega arith))
  lowest_by (suc d) m e = by (hangs ps has p m) refl (lowest_by d (suc m) (omega arith))
    where
      l : m < length ps
      l = omega arith

      by : (b : Bool) → hangs ps has p m ≡ b → Lowest ps has p (suc m) (first_of (from ps has (suc m) p)) → Lowest ps has p m (first_of (from ps has m p))
      by true q h =
          let a = (and-eq-true_iff (has m) (eqb (parent ps m) p)).0 q in
          rw (from_hit ps has m l p q) (lowest {k = m} (record { least = omega arith; living = a.0; up = eqb-true (parent ps m) p a.1 }) (λ x c. c.least))
      by false q h = rw (from_miss ps has m l p q) (lowest_on m q h)

  -- the first of those from m on is the lowest
  pub lowest_from : (m : ℕ) → Lowest ps has p m (first_of (from ps has m p))
  lowest_from m = lowest_by (length ps - m) m refl

-- ── a chain ──

chain_none : (f : ℕ) (ns : List ℕ) → chain_in f ns 0 ≡ []
unfolding chain_in
chain_none zero ns = refl
chain_none (suc f) ns = refl

pub chain_zero : (f : ℕ) (ns : List ℕ) (k : ℕ) → k ≡ 0 → chain_in f ns k ≡ []
chain_zero f ns k e = rw e (chain_none f ns)

pub chain_full : (n m : ℕ) (ns : List ℕ) (k : ℕ) → m ≤ n → chain_in (m - n) ns k ≡ []
unfolding chain_in
chain_full n m ns k h = let z : m - n ≡ 0 = omega arith in rw z

pub chain_some : (f : ℕ) (ns : List ℕ) (k : ℕ) → (k ≡ 0 → ⊥) → chain_in (suc f) ns k ≡ k ∷ chain_in f ns (get_or ns k 0)
unfolding chain_in
chain_some f ns k e = rw (ne_eqb k 0 e)

-- with room for one more
pub chain_turn : (n m : ℕ) (ns : List ℕ) (k : ℕ) → n < m → (k ≡ 0 → ⊥) → chain_in (m - n) ns k ≡ k ∷ chain_in (m - (n + 1)) ns (get_or ns k 0)
chain_turn n m ns k h e = let z : m - n ≡ suc (m - (n + 1)) = omega arith in rw z (chain_some (m - (n + 1)) ns k e)

module _ {ps : List ℕ} {has : ℕ → Bool} {fs ns : List ℕ} (s : Linking ps has 1 fs ns) (p : ℕ) where
  -- the links lead from the first of those from m on to all of them
  chain_by : (d m f : ℕ) → length ps - m ≡ d → 0 < m → length (from ps has m p) ≤ f → chain_in f ns (first_of (from ps has m p)) ≡ from ps has m p
  chain_by zero m f e o h = rw (from_none ps has m p (omega arith)) (chain_none f ns)
  chain_by (suc d) m f e o h = by (hangs ps has p m) refl f h (λ f h. chain_by d (suc m) f (omega arith) (omega arith) h)
    where
      l : m < length ps
      l = omega arith

      by : (b : Bool) → hangs ps has p m ≡ b → (f : ℕ) → length (from ps has m p) ≤ f
          → ((f : ℕ) → length (from ps has (suc m) p) ≤ f → chain_in f ns (first_of (from ps has (suc m) p)) ≡ from ps has (suc m) p) → chain_in f ns (first_of (from ps has m p)) ≡ from ps has m p
      by true q zero h g = absurd (let z = ap length (from_hit ps has m l p q) in omega arith)
      by true q (suc f) h g =
          let z = ap length (from_hit ps has m l p q) in
          let a = (and-eq-true_iff (has m) (eqb (parent ps m) p)).0 q in
          let n : get_or ns m 0 ≡ first_of (from ps has (suc m) p) = s.next m ∙ rw (a.0, eqb-true (parent ps m) p a.1, le-leb 1 m o) in
          rw (from_hit ps has m l p q) (chain_some f ns m (λ z. omega arith) ∙ ap (λ (w : List ℕ). m ∷ w) (rw n (g f (omega arith))))
      by false q f h g =
          let z = ap length (from_miss ps has m l p q) in
          rw (from_miss ps has m l p q) (g f (omega arith))

  -- from the first child of p to all children of p
  pub chain_kids : Ruled ps → (f : ℕ) → length (kids ps has p) ≤ f → chain_in f ns (get_or fs p 0) ≡ kids ps has p
  chain_kids rule f h =
      let k = from_kids ps rule has p in
      let n = ap length k in
      rw (s.first p) (chain_by (length ps - 1) 1 f refl (omega arith) (omega arith) ∙ k)
