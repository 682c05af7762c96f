-- The pass from the last place down: a place that is not live changes nothing, and a live one is put before those that its parent had. Two lists compared.
-- Assumes nothing.
use mathlib.Core.Path.{◌≡◌, refl, sym, ap, ◌∙◌}
use mathlib.Core.Bool.{Bool, true, false, ◌&&◌}
use mathlib.Core.List.{List, [], ◌∷◌}
use Prim.Native.Nat.{ℕ, suc, ◌+◌, ◌≤◌, ◌<◌}
use native.Mathlib.Nat.{add-zero, add-suc, suc-add}
use native.Mathlib.Omega.{arith}
use borrow.Author.Tests.{eq-eqb, ne_eqb, le-leb, lt-leb, leb-true, leb-false}
use lib.Dec.{leb, eqb}
use lib.Pointwise.{pointwise}
use lib.ListN.{length, get_or, set, replicate, length-replicate, get_or-replicate, length-set, get_or-eq_default}
use lib.Seq.{get_or-set_same, get_or-set_other}
use Rattle.layout.specs.Answer.{pick}
use Rattle.tree.specs.Table.{parent}
use Rattle.tree.specs.Links.{first_of, from, next_at, Linking, agrees}
use Rattle.tree.proofs.laws.Below.{by_less}
use Rattle.tree.proofs.laws.Chains.{from_hit, from_miss, from_none}
use Rattle.tree.proofs.laws.Counts.{equal}
use Rattle.tree.proofs.laws.Links.{next_ended}

module _ (ps : List ℕ) (has : ℕ → Bool) (k : ℕ) (l : k < length ps) where
  -- of any other place nothing is new
  same_leb : (j : ℕ) → (j ≡ k → ⊥) → leb k j ≡ leb (suc k) j
  same_leb j e = go (leb (suc k) j) refl
    where
      go : (b : Bool) → leb (suc k) j ≡ b → leb k j ≡ b
      go true q = le-leb k j (let h = leb-true (suc k) j q in omega arith)
      go false q = lt-leb k j (let h = leb-false (suc k) j q in omega arith)

  module _ (few : length ps ≤ 1024) {fs ns : List ℕ} (s : Linking ps has (suc k) fs ns) where
    pub link_skip : has k ≡ false → Linking ps has k fs ns
    link_skip m = record {
      firsts = s.firsts;
      nexts = s.nexts;
      first = λ p. s.first p ∙ ap first_of (sym (from_miss ps has k l p (rw m)));
      next = λ j. equal j k
          (λ e. let n : has j ≡ false = rw e m in s.next j ∙ next_ended ps has (suc k) j n ∙ sym (next_ended ps has k j n))
          (λ e. s.next j ∙ ap (λ (b : Bool). pick {A = ℕ} (b && has j) (first_of (from ps has (suc j) (parent ps j))) 0) (sym (same_leb j e)));
    }

    pub link_hit : has k ≡ true → parent ps k < length ps → Linking ps has k (set fs (parent ps k) k) (set ns k (get_or fs (parent ps k) 0))
    link_hit m up = record {
      firsts = length-set fs (parent ps k) k ∙ s.firsts;
      nexts = length-set ns k (get_or fs (parent ps k) 0) ∙ s.nexts;
      first = λ p. equal p (parent ps k)
          (λ e. rw e (get_or-set_same fs (parent ps k) k 0 (let n = s.firsts in omega arith)) ∙ sym (ap first_of (from_hit ps has k l p (rw (m, e, eq-eqb (parent ps k) (parent ps k) refl)))))
          (λ e. get_or-set_other fs (parent ps k) p k 0 e ∙ s.first p ∙ ap first_of (sym (from_miss ps has k l p (rw (m, ne_eqb (parent ps k) p (λ z. e (sym z)))))));
      next = λ j. equal j k
          (λ e. rw (e, m, le-leb k k (omega arith)) (get_or-set_same ns k (get_or fs (parent ps k) 0) 0 (let n = s.nexts in omega arith) ∙ s.first (parent ps k)))
          (λ e. get_or-set_other ns k j (get_or fs (parent ps k) 0) 0 e ∙ s.next j ∙ ap (λ (b : Bool). pick {A = ℕ} (b && has j) (first_of (from ps has (suc j) (parent ps j))) 0) (sym (same_leb j e)));
    }

-- where nothing stands but 0, the places from the end on are linked
pub unlinked : (ps : List ℕ) (has : ℕ → Bool) {fs ns : List ℕ} → ((k : ℕ) → has k ≡ true → k < length ps) → length fs ≡ 1024 → length ns ≡ 1024
    → ((k : ℕ) → get_or fs k 0 ≡ 0) → ((k : ℕ) → get_or ns k 0 ≡ 0) → Linking ps has (length ps) fs ns
unlinked ps has place f n fs ns = record {
  firsts = f;
  nexts = n;
  first = λ p. fs p ∙ sym (ap first_of (from_none ps has (length ps) p (omega arith)));
  next = λ j. ns j ∙ sym (behind j (has j) refl);
}
  where
    behind : (j : ℕ) (b : Bool) → has j ≡ b → next_at ps has (length ps) j ≡ 0
    behind j true e = rw (lt-leb (length ps) j (place j e))
    behind j false e = next_ended ps has (length ps) j e

-- so in an array that was made of 0
pub zeros : (n k : ℕ) → get_or {A = ℕ} (replicate n 0) k 0 ≡ 0
zeros n k =
    by_less k n _ refl
    (λ h. get_or-replicate {A = ℕ} n k 0 0 h)
    (λ h. get_or-eq_default {A = ℕ} (replicate n 0) 0 (let l = length-replicate {A = ℕ} n 0 in omega arith))

-- ── two lists compared ──

-- a list that is as long as another, entry by entry, where f says what stands in the other from the place k on
pub compared : (k : ℕ) (f : ℕ → ℕ) (l o : List ℕ) → length l ≡ length o → ((i : ℕ) → i < length o → get_or o i 0 ≡ f (k + i)) → pointwise eqb l o ≡ agrees k f l
unfolding agrees
compared k f [] [] e g = refl
compared k f [] (y ∷ o) e g = absurd (omega arith)
compared k f (x ∷ l) [] e g = absurd (omega arith)
compared k f (x ∷ l) (y ∷ o) e g =
    let here : y ≡ f k = rw add-zero at (g 0 (omega arith)) in
    rw (← here) (ap (λ b. eqb x y && b) (compared (suc k) f l o (omega arith) (λ i h. rw (suc-add, ← add-suc) (g (suc i) (omega arith)))))
