-- At most one list is listed so: of two, the first of each stands in the other, so if they differed each would be before the other.
-- Assumes nothing.
use mathlib.Core.Path.{◌≡◌, refl, sym, ◌∙◌}
use mathlib.Core.Bool.{Bool}
use mathlib.Core.List.{List}
use Prim.Native.Nat.{ℕ}
use native.Mathlib.Omega.{arith}
use lib.Dec.{eqb}
use Rattle.layout.specs.Answer.{pick}
use Rattle.tree.specs.Listed.{times, Sorted, done, next, Listed}
use Rattle.tree.proofs.laws.Counts.{equal, hit, miss, every_at}

module _ (Before : ℕ → ℕ → Type 0) (never : (a b : ℕ) → Before a b → Before b a → ⊥) where
  same : {l m : List ℕ} → Sorted Before l → Sorted Before m → ((k : ℕ) → times k l ≡ times k m) → l ≡ m
  same done done e = refl
  same done (next {x = b} {l = m} f t) e = absurd (let h = e b in let j = hit b b m refl in omega arith)
  same (next {x = a} {l = l} f s) done e = absurd (let h = e a in let j = hit a a l refl in omega arith)
  same (next {x = a} {l = l} f s) (next {x = b} {l = m} g t) e =
      equal a b
      (λ q. let r : l ≡ m = same s t (λ k. let h = e k in let z : pick {A = ℕ} (eqb k a) 1 0 ≡ pick {A = ℕ} (eqb k b) 1 0 = rw q in omega arith) in rw (q, r))
      (λ q. absurd (never a b
      (every_at b f (let h = e b in let j = hit b b m refl in let i = miss b a l (λ z. q (sym z)) in omega arith))
      (every_at a g (let h = e a in let j = hit a a l refl in let i = miss a b m q in omega arith))))

  pub unique : (has : ℕ → Bool) (l m : List ℕ) → Listed has Before l → Listed has Before m → l ≡ m
  unique has l m p q = same p.order q.order (λ k. p.once k ∙ sym (q.once k))
