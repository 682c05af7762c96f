-- What hangs under a place, and under each of a list in turn: how often a place stands there. A live place stands once under its parent and under no other.
-- Assumes nothing.
use mathlib.Core.Path.{◌≡◌, refl, sym, ap, ◌∙◌}
use mathlib.Core.Bool.{Bool, true, false, ◌&&◌}
use mathlib.Core.List.{List, [], ◌∷◌, ◌++◌, append_assoc}
use Prim.Native.Nat.{ℕ, zero, suc, ◌+◌, ◌-◌, ◌≤◌, ◌<◌}
use native.Mathlib.Omega.{arith}
use borrow.Author.Tests.{ne_eqb, ltb-true, ltb-false}
use lib.ListN.{length}
use lib.Dec.{eqb, ltb}
use Rattle.layout.specs.Answer.{pick}
use Rattle.tree.specs.Facts.{Ruled, Marks}
use Rattle.tree.specs.Table.{parent}
use Rattle.tree.specs.Listed.{times}
use Rattle.tree.specs.Kids.{hangs, kids_in, kids}
use Rattle.tree.proofs.laws.Counts.{equal, hit, miss, times_append}

-- less or not
pub by_less : {X : Type 0} (a b : ℕ) (t : Bool) → ltb a b ≡ t → (a < b → X) → (b ≤ a → X) → X
by_less a b true e f g = f (ltb-true a b e)
by_less a b false e f g = g (ltb-false a b e)

-- marked or not
pub by_mark : {X : Type 0} (b : Bool) → (b ≡ true → X) → (b ≡ false → X) → X
by_mark true f g = f refl
by_mark false f g = g refl

pub clash : (b : Bool) → b ≡ true → b ≡ false → ⊥
clash b p q = let z : ◌≡◌ {A = ℕ} 0 1 = cc in omega arith

-- ── how often a place stands among those with the parent p ──

skip : (x k : ℕ) (b : Bool) (l : List ℕ) → (x ≡ k → ⊥) → times x (pick b (k ∷ l) l) ≡ times x l
skip x k true l e = miss x k l e
skip x k false l e = refl

met : (x k : ℕ) (b : Bool) (l : List ℕ) → x ≡ k → times x l ≡ 0 → times x (pick b (k ∷ l) l) ≡ pick b 1 0
met x k true l e z = let h = hit x k l e in omega arith
met x k false l e z = z

module _ (ps : List ℕ) (has : ℕ → Bool) where
  front : (m k p x : ℕ) → x < k → times x (kids_in m ps has k p) ≡ 0
  unfolding kids_in
  front zero k p x h = refl
  front (suc m) k p x h = skip x k (hangs ps has p k) (kids_in m ps has (suc k) p) (λ e. omega arith) ∙ front m (suc k) p x (omega arith)

  behind : (m k p x : ℕ) → k + m ≤ x → times x (kids_in m ps has k p) ≡ 0
  unfolding kids_in
  behind zero k p x h = refl
  behind (suc m) k p x h = skip x k (hangs ps has p k) (kids_in m ps has (suc k) p) (λ e. omega arith) ∙ behind m (suc k) p x (omega arith)

  amid : (m k p x : ℕ) → k ≤ x → x < k + m → times x (kids_in m ps has k p) ≡ pick (hangs ps has p x) 1 0
  unfolding kids_in
  amid zero k p x h j = absurd (omega arith)
  amid (suc m) k p x h j =
      equal x k
      (λ e. met x k (hangs ps has p k) (kids_in m ps has (suc k) p) e (front m (suc k) p x (omega arith)) ∙ ap (λ (n : ℕ). pick (hangs ps has p n) 1 0) (sym e))
      (λ e. skip x k (hangs ps has p k) (kids_in m ps has (suc k) p) e ∙ amid m (suc k) p x (omega arith) (omega arith))

  pub kids_root : (p : ℕ) → times 0 (kids ps has p) ≡ 0
  unfolding kids
  kids_root p = front _ (suc p) p 0 (omega arith)

  -- a place that is not marked stands there never
  pub kids_not : (p x : ℕ) → has x ≡ false → times x (kids ps has p) ≡ 0
  unfolding kids
  kids_not p x e =
      by_less x (suc p) _ refl
      (λ l. front _ (suc p) p x l)
      (λ l. by_less x (suc p + (length ps - suc p)) _ refl
      (λ j. amid _ (suc p) p x l j ∙ ap (λ (b : Bool). pick {A = ℕ} (b && eqb (parent ps x) p) 1 0) e)
      (λ j. behind _ (suc p) p x j))

  -- a marked one once under its parent, and under no other
  pub kids_once : (p x : ℕ) → has x ≡ true → parent ps x < x → x < length ps → times x (kids ps has p) ≡ pick (eqb (parent ps x) p) 1 0
  unfolding kids
  kids_once p x e h l =
      by_less x (suc p) _ refl
      (λ z. front _ (suc p) p x z ∙ sym (ap (λ (b : Bool). pick {A = ℕ} b 1 0) (ne_eqb (parent ps x) p (λ q. omega arith))))
      (λ z. amid _ (suc p) p x z (omega arith) ∙ ap (λ (b : Bool). pick {A = ℕ} (b && eqb (parent ps x) p) 1 0) e)

-- ── what hangs under each of a list ──

abbrev pub below : List ℕ → (ℕ → Bool) → List ℕ → List ℕ
below ps has [] = []
below ps has (p ∷ l) = kids ps has p ++ below ps has l

pub below_append : (ps : List ℕ) (has : ℕ → Bool) (a b : List ℕ) → below ps has (a ++ b) ≡ below ps has a ++ below ps has b
below_append ps has [] b = refl
below_append ps has (x ∷ a) b = rw (below_append ps has a b, append_assoc)

module _ (ps : List ℕ) (rule : Ruled ps) (has : ℕ → Bool) (marks : Marks ps has) where
  pub below_not : (x : ℕ) (l : List ℕ) → has x ≡ false → times x (below ps has l) ≡ 0
  below_not x [] h = refl
  below_not x (p ∷ l) h =
      let a = times_append x (kids ps has p) (below ps has l) in let b = kids_not ps has p x h in let d = below_not x l h in omega arith

  pub below_root : (l : List ℕ) → times 0 (below ps has l) ≡ 0
  below_root [] = refl
  below_root (p ∷ l) =
      let a = times_append 0 (kids ps has p) (below ps has l) in let b = kids_root ps has p in let d = below_root l in omega arith

  pub smaller : (x : ℕ) → 0 < x → has x ≡ true → parent ps x < x
  smaller x h e = rule.smaller x h (marks.place x e)

  -- a marked place stands there as often as its parent stands in the list
  pub below_times : (x : ℕ) (l : List ℕ) → 0 < x → has x ≡ true → times x (below ps has l) ≡ times (parent ps x) l
  below_times x [] h e = refl
  below_times x (p ∷ l) h e =
      let a = times_append x (kids ps has p) (below ps has l) in
      let b = kids_once ps has p x e (smaller x h e) (marks.place x e) in
      let d = below_times x l h e in omega arith
