-- Ways by the parent's way, and the order that goes by them: no two places are each before the other, so a table has one walk; and what hangs
-- under an earlier place comes before what hangs under a later one.
-- Assumes nothing.
use mathlib.Core.Path.{◌≡◌, refl, ap, ◌∙◌}
use mathlib.Core.Bool.{Bool, true, false}
use mathlib.Core.List.{List, [], ◌∷◌, ◌++◌}
use Prim.Native.Nat.{ℕ, zero, suc, ◌<◌}
use native.Mathlib.Nat.{not-suc-le-zero}
use native.Mathlib.Omega.{arith}
use borrow.Author.Tests.{eq-eqb, ne_eqb, eqb-false}
use lib.ListN.{length, get_or, length-append}
use lib.Dec.{eqb}
use Rattle.layout.specs.Answer.{pick}
use Rattle.tree.specs.Facts.{Ruled}
use Rattle.tree.specs.Table.{parent}
use Rattle.tree.specs.Way.{climbed, from_root, way, depth, Left, here, there, stops, Before, higher, beside, Walk}
use Rattle.tree.specs.View.{Folders}
use Rattle.tree.proofs.laws.Counts.{equal}
use Rattle.tree.proofs.Alone.{unique}

-- ── left to right ──

-- a list without its first entry
unfoldable after_first : List ℕ → List ℕ
after_first [] = []
after_first (x ∷ l) = l

-- for lists that are the same, so that no index stands twice
left_apart : {s t u v : List ℕ} → Left s t → Left u v → s ≡ v → t ≡ u → ⊥
unfolding after_first
left_apart (here h) (here g) e f = omega (arith, ap (λ (l : List ℕ). get_or l 0 0) e, ap (λ (l : List ℕ). get_or l 0 0) f)
left_apart (here h) (there q) e f = omega (arith, ap (λ (l : List ℕ). get_or l 0 0) e, ap (λ (l : List ℕ). get_or l 0 0) f)
left_apart (here h) stops e f = omega (arith, ap length f)
left_apart (there p) (here g) e f = omega (arith, ap (λ (l : List ℕ). get_or l 0 0) e, ap (λ (l : List ℕ). get_or l 0 0) f)
left_apart (there p) (there q) e f = left_apart p q (ap after_first e) (ap after_first f)
left_apart (there p) stops e f = omega (arith, ap length f)
left_apart stops q e f = stopped q e
  where
    stopped : {u v : List ℕ} → Left u v → [] ≡ v → ⊥
    stopped (here g) e = omega (arith, ap length e)
    stopped (there q) e = omega (arith, ap length e)
    stopped stops e = omega (arith, ap length e)

pub left_never : {s t : List ℕ} → Left s t → Left t s → ⊥
left_never p q = left_apart p q refl refl

left_on : {s t : List ℕ} (x y : List ℕ) → length s ≡ length t → Left s t → Left (s ++ x) (t ++ y)
left_on x y e (here h) = here h
left_on x y e (there p) = there (left_on x y (omega arith) p)
left_on x y e stops = absurd (omega arith)

left_last : (s : List ℕ) {a b : ℕ} → a < b → Left (s ++ a ∷ []) (s ++ b ∷ [])
left_last [] h = here h
left_last (x ∷ s) h = there (left_last s h)

-- ── no two places are each before the other ──

pub never : (ps : List ℕ) (a b : ℕ) → Before ps a b → Before ps b a → ⊥
never ps a b (higher h) (higher g) = omega arith
never ps a b (higher h) (beside e p) = omega arith
never ps a b (beside e p) (higher g) = omega arith
never ps a b (beside e p) (beside f q) = left_never p q

-- a table has at most one walk
pub one_walk : (ps : List ℕ) (has : ℕ → Bool) (l m : List ℕ) → Walk ps has l → Walk ps has m → l ≡ m
one_walk ps has l m p q = unique (Before ps) (never ps) has l m p q

-- and at most one folder view
pub one_view : (ps : List ℕ) (has : ℕ → Bool) (l m : List ℕ) → Folders ps has l → Folders ps has m → l ≡ m
one_view ps has l m p q = unique (λ a b. Left (way ps a) (way ps b)) (λ a b. left_never) has l m p q

-- ── ways ──

pick_same : {A : Type 0} (b : Bool) (x y z : A) → (b ≡ false → y ≡ z) → pick b x y ≡ pick b x z
pick_same true x y z e = refl
pick_same false x y z e = e refl

-- what is made from the root down: at the root, and elsewhere by the parent's
module _ {A : Type 0} (root : A) (step : A → ℕ → A) (ps : List ℕ) where
  pub at_root : (k : ℕ) → k ≡ 0 → from_root root step ps k ≡ root
  unfolding from_root climbed
  at_root k e = rw (eq-eqb k 0 e)

  module _ (rule : Ruled ps) where
    -- more steps than needed change nothing
    fuel : (f g k : ℕ) → k < f → k < g → k < length ps → climbed root step f ps k ≡ climbed root step g ps k
    unfolding climbed
    fuel zero g k h j l = absurd (not-suc-le-zero h)
    fuel (suc f) zero k h j l = absurd (not-suc-le-zero j)
    fuel (suc f) (suc g) k h j l =
        pick_same (eqb k 0) _ _ _
        (λ e. let some : 0 < k = omega (arith, eqb-false k 0 e) in
        let less : parent ps k < k = rule.smaller k some l in
        rw (fuel f g (parent ps k) (omega arith) (omega arith) (omega arith)))

    pub by_parent : (k : ℕ) → 0 < k → k < length ps → from_root root step ps k ≡ step (from_root root step ps (parent ps k)) k
    unfolding from_root climbed
    by_parent k h l =
        let less : parent ps k < k = rule.smaller k h l in
        rw (ne_eqb k 0 (λ z. omega arith), fuel k (suc (parent ps k)) (parent ps k) less (omega arith) (omega arith))

pub way_root : (ps : List ℕ) → way ps 0 ≡ 0 ∷ []
unfolding way
way_root ps = at_root _ _ ps 0 refl

depth_root : (ps : List ℕ) → depth ps 0 ≡ 1
unfolding depth
depth_root ps = rw (way_root ps)

-- x is a place whose parent is p
pub record Kid (ps : List ℕ) (p x : ℕ) : Type 0 where
  pub some : 0 < x
  pub there : x < length ps
  pub up : parent ps x ≡ p

module _ (ps : List ℕ) (rule : Ruled ps) where
  pub way_step : (k : ℕ) → 0 < k → k < length ps → way ps k ≡ way ps (parent ps k) ++ k ∷ []
  unfolding way
  way_step k h l = by_parent _ _ ps rule k h l

  depth_step : (k : ℕ) → 0 < k → k < length ps → depth ps k ≡ suc (depth ps (parent ps k))
  unfolding depth
  depth_step k h l = rw (way_step k h l) (simp length-append (omega arith))

  depth_some : (k : ℕ) → k < length ps → 0 < depth ps k
  unfolding depth
  depth_some k l = equal k 0 (λ e. rw (e, way_root ps) (omega arith)) (λ e. rw (way_step k (omega arith) l) (simp length-append (omega arith)))

  pub before_root : (x : ℕ) → 0 < x → x < length ps → Before ps 0 x
  before_root x h l =
      let less = rule.smaller x h l in
      let r = depth_root ps in
      let d = depth_step x h l in
      let e = depth_some (parent ps x) (omega arith) in
      higher (omega arith)

  kid_depth : {p x : ℕ} → Kid ps p x → depth ps x ≡ suc (depth ps p)
  kid_depth {p} {x} k = depth_step x k.some k.there ∙ ap (λ (n : ℕ). suc (depth ps n)) k.up

  pub kid_way : {p x : ℕ} → Kid ps p x → way ps x ≡ way ps p ++ x ∷ []
  kid_way {p} {x} k = way_step x k.some k.there ∙ ap (λ (n : ℕ). way ps n ++ x ∷ []) k.up

  same_length : (p q : ℕ) → depth ps p ≡ depth ps q → length (way ps p) ≡ length (way ps q)
  unfolding depth
  same_length p q e = e

  -- what hangs under p is before what hangs under q, if p is before q
  pub before_kids : {p q x y : ℕ} → Before ps p q → Kid ps p x → Kid ps q y → Before ps x y
  before_kids (higher h) k j = higher (let a = kid_depth k in let b = kid_depth j in omega arith)
  before_kids {p} {q} {x} {y} (beside e l) k j =
      beside (let a = kid_depth k in let b = kid_depth j in omega arith)
      (rw (kid_way k, kid_way j) (left_on _ _ (same_length p q e) l))

  -- of two places under p the smaller is before the other
  pub before_beside : {p x y : ℕ} → x < y → Kid ps p x → Kid ps p y → Before ps x y
  before_beside {p} h k j =
      beside (let a = kid_depth k in let b = kid_depth j in omega arith)
      (rw (kid_way k, kid_way j) (left_last (way ps p) h))
