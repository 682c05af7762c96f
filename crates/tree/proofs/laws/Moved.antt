-- A table whose live places were moved, keeping their order: ways and paths are the old ones but for place numbers, and so are the walk and the folder view.
-- Assumes nothing.
use mathlib.Core.Path.{◌≡◌, refl, sym, ap, ◌∙◌}
use mathlib.Core.Bool.{Bool, true, false}
use mathlib.Core.List.{List, [], ◌∷◌, ◌++◌, map}
use Prim.Native.Nat.{ℕ, zero, suc, ◌<◌}
use native.Mathlib.Nat.{not-suc-le-zero}
use native.Mathlib.Omega.{arith}
use borrow.Author.Tests.{ltb-true, ltb-false}
use lib.ListN.{length, length-map}
use lib.Dec.{ltb}
use Rattle.layout.specs.Answer.{pick}
use Rattle.tree.specs.Facts.{Ruled, Marks}
use Rattle.tree.specs.Table.{parent}
use Rattle.tree.specs.Listed.{times, Every, none, more, Sorted, done, next, Listed}
use Rattle.tree.specs.Way.{from_root, way, depth, Left, here, there, stops, Before, higher, beside, Walk}
use Rattle.tree.specs.View.{Folders}
use Rattle.tree.specs.Path.{name_of, slash_after, path_of}
use Rattle.tree.proofs.laws.Counts.{equal, hit, miss, every_append}
use Rattle.tree.proofs.laws.Ways.{at_root, by_parent, way_root, way_step}
use Rattle.tree.proofs.laws.Below.{by_mark, clash}

-- the marked places of ps stand in qs, in the same order, and nothing else is marked there
pub record Moves (ps : List ℕ) (has : ℕ → Bool) (qs : List ℕ) (now : ℕ → Bool) (new : ℕ → ℕ) : Type 0 where
  pub root : new 0 ≡ 0
  pub rises : (a b : ℕ) → has a ≡ true → has b ≡ true → a < b → new a < new b
  pub keeps : (k : ℕ) → has k ≡ true → now (new k) ≡ true
  pub covers : (j : ℕ) → now j ≡ true → (k : ℕ) × (has k ≡ true) × (new k ≡ j)
  pub parents : (k : ℕ) → 0 < k → has k ≡ true → parent qs (new k) ≡ new (parent ps k)

map_append : (f : ℕ → ℕ) (a b : List ℕ) → map f (a ++ b) ≡ map f a ++ map f b
map_append f [] b = refl
map_append f (x ∷ a) b = ap (λ (l : List ℕ). f x ∷ l) (map_append f a b)

-- what holds of each that stands in l
every_of : {P : ℕ → Type 0} (l : List ℕ) → ((x : ℕ) → 0 < times x l → P x) → Every P l
every_of [] f = none
every_of (x ∷ l) f = more (f x (let h = hit x x l refl in omega arith)) (every_of l (λ y h. f y (omega arith)))

-- each of a list that holds what `has` says, and nothing else
pub each_marked : {has : ℕ → Bool} {Bef : ℕ → ℕ → Type 0} {l : List ℕ} → Listed has Bef l → Every (λ x. has x ≡ true) l
each_marked {has} {l} w = every_of l (λ x h. by_mark (has x) (λ y. y) (λ n.
    absurd (let o : times x l ≡ 0 = w.once x ∙ ap (λ (b : Bool). pick {A = ℕ} b 1 0) n in omega arith)))

module _ (ps : List ℕ) (has : ℕ → Bool) (rule : Ruled ps) (marks : Marks ps has)
    (qs : List ℕ) (now : ℕ → Bool) (rule' : Ruled qs) (marks' : Marks qs now)
    (new : ℕ → ℕ) (m : Moves ps has qs now new) where
  -- ── what is made from the root down ──

  module _ {A : Type 0} (root root' : A) (step step' : A → ℕ → A) (f : A → A) (first : root' ≡ f root)
      (each : (a : A) (k : ℕ) → 0 < k → has k ≡ true → step' (f a) (new k) ≡ f (step a k)) where
    made : (n k : ℕ) → k < n → has k ≡ true → from_root root' step' qs (new k) ≡ f (from_root root step ps k)
    made zero k h e = absurd (not-suc-le-zero h)
    made (suc n) k h e =
        equal k 0
        (λ z. at_root root' step' qs (new k) (rw z m.root) ∙ first ∙ ap f (sym (at_root root step ps k z)))
        (λ z. let s : 0 < k = omega arith in
        let l = marks.place k e in
        let r = rule.smaller k s l in
        let o = m.rises 0 k marks.root e s in
        let q : 0 < new k = omega arith in
        by_parent root' step' qs rule' (new k) q (marks'.place (new k) (m.keeps k e))
        ∙ ap (λ (j : ℕ). step' (from_root root' step' qs j) (new k)) (m.parents k s e)
        ∙ ap (λ (a : A). step' a (new k)) (made n (parent ps k) (omega arith) (marks.up k s e))
        ∙ each (from_root root step ps (parent ps k)) k s e
        ∙ ap f (sym (by_parent root step ps rule k s l)))

    pub made_moved : (k : ℕ) → has k ≡ true → from_root root' step' qs (new k) ≡ f (from_root root step ps k)
    made_moved k e = made (suc k) k (omega arith) e

  pub way_moved : (k : ℕ) → has k ≡ true → way qs (new k) ≡ map new (way ps k)
  unfolding way
  way_moved k e =
      made_moved (0 ∷ []) (0 ∷ []) (λ w p. w ++ p ∷ []) (λ w p. w ++ p ∷ []) (map new) (ap (λ (n : ℕ). n ∷ []) (sym m.root))
      (λ w j s h. sym (map_append new w (j ∷ []))) k e

  -- the names that the places have are the same
  pub path_moved : (es ns es' ns' : List ℕ) → ((k : ℕ) → has k ≡ true → name_of es' ns' (new k) ≡ name_of es ns k)
      → (k : ℕ) → has k ≡ true → path_of qs es' ns' (new k) ≡ path_of ps es ns k
  unfolding path_of
  path_moved es ns es' ns' name k e =
      made_moved (name_of es ns 0) (name_of es' ns' 0)
      (λ above j. above ++ slash_after above ++ name_of es ns j) (λ above j. above ++ slash_after above ++ name_of es' ns' j) (λ path. path)
      (ap (name_of es' ns') (sym m.root) ∙ name 0 marks.root)
      (λ above j s h. ap (λ (n : List ℕ). above ++ slash_after above ++ n) (name j h)) k e

  -- ── the walk and the folder view ──

  way_marked : (f k : ℕ) → k < f → has k ≡ true → Every (λ x. has x ≡ true) (way ps k)
  way_marked zero k h e = absurd (not-suc-le-zero h)
  way_marked (suc f) k h e =
      equal k 0
      (λ z. rw (z, way_root ps) (more marks.root none))
      (λ z. let s : 0 < k = omega arith in
      let l = marks.place k e in
      let r = rule.smaller k s l in
      rw (way_step ps rule k s l) (every_append (way_marked f (parent ps k) (omega arith) (marks.up k s e)) (more e none)))

  left_moved : {s t : List ℕ} → Every (λ x. has x ≡ true) s → Every (λ x. has x ≡ true) t → Left s t → Left (map new s) (map new t)
  left_moved (more p e) (more q f) (here h) = here (m.rises _ _ p q h)
  left_moved (more p e) (more q f) (there l) = there (left_moved e f l)
  left_moved e f stops = stops

  ways_moved : (a b : ℕ) → has a ≡ true → has b ≡ true → Left (way ps a) (way ps b) → Left (way qs (new a)) (way qs (new b))
  ways_moved a b p q l =
      rw (way_moved a p, way_moved b q) (left_moved (way_marked (suc a) a (omega arith) p) (way_marked (suc b) b (omega arith) q) l)

  depth_moved : (k : ℕ) → has k ≡ true → depth qs (new k) ≡ depth ps k
  unfolding depth
  depth_moved k e = ap length (way_moved k e) ∙ length-map (way ps k) new

  before_moved : (a b : ℕ) → has a ≡ true → has b ≡ true → Before ps a b → Before qs (new a) (new b)
  before_moved a b p q (higher h) = higher (let x = depth_moved a p in let y = depth_moved b q in omega arith)
  before_moved a b p q (beside e l) = beside (depth_moved a p ∙ e ∙ sym (depth_moved b q)) (ways_moved a b p q l)

  same : (a b : ℕ) → has a ≡ true → has b ≡ true → new a ≡ new b → a ≡ b
  same a b p q e =
      equal a b (λ z. z)
      (λ z. absurd (less (ltb a b) refl z))
    where
      less : (t : Bool) → ltb a b ≡ t → (a ≡ b → ⊥) → ⊥
      less true y z = let h = m.rises a b p q (ltb-true a b y) in omega arith
      less false y z = let g = ltb-false a b y in let h = m.rises b a q p (omega arith) in omega arith

  times_moved : (k : ℕ) → has k ≡ true → {l : List ℕ} → Every (λ x. has x ≡ true) l → times (new k) (map new l) ≡ times k l
  times_moved k e none = refl
  times_moved k e (more {x = x} {l = l} p f) =
      equal k x
      (λ z. hit (new k) (new x) (map new l) (ap new z) ∙ ap suc (times_moved k e f) ∙ sym (hit k x l z))
      (λ z. miss (new k) (new x) (map new l) (λ y. z (same k x e p y)) ∙ times_moved k e f ∙ sym (miss k x l z))

  times_new : (j : ℕ) → now j ≡ false → {l : List ℕ} → Every (λ x. has x ≡ true) l → times j (map new l) ≡ 0
  times_new j e none = refl
  times_new j e (more {x = x} {l = l} p f) =
      miss j (new x) (map new l) (λ z. clash (now (new x)) (m.keeps x p) (rw z at e)) ∙ times_new j e f

  -- an order that moving keeps is the order of the moved list
  module _ (Bef Bef' : ℕ → ℕ → Type 0) (kept : (a b : ℕ) → has a ≡ true → has b ≡ true → Bef a b → Bef' (new a) (new b)) where
    each_before : {x : ℕ} → has x ≡ true → {l : List ℕ} → Every (λ y. has y ≡ true) l → Every (Bef x) l → Every (Bef' (new x)) (map new l)
    each_before p none none = none
    each_before p (more q e) (more b f) = more (kept _ _ p q b) (each_before p e f)

    sorted : {l : List ℕ} → Every (λ y. has y ≡ true) l → Sorted Bef l → Sorted Bef' (map new l)
    sorted none done = done
    sorted (more p e) (next f s) = next (each_before p e f) (sorted e s)

    listed_moved : (l : List ℕ) → Listed has Bef l → Listed now Bef' (map new l)
    listed_moved l w =
        let e = each_marked w in
        record {
          once = λ j. by_mark (now j)
              (λ y. let c = m.covers j y in
              ap (λ (n : ℕ). times n (map new l)) (sym c.2) ∙ times_moved c.0 c.1 e
              ∙ w.once c.0 ∙ ap (λ (b : Bool). pick {A = ℕ} b 1 0) (c.1 ∙ sym y))
              (λ y. times_new j y e ∙ sym (ap (λ (b : Bool). pick {A = ℕ} b 1 0) y));
          order = sorted e w.order;
        }

  pub walk_moved : (l : List ℕ) → Walk ps has l → Walk qs now (map new l)
  walk_moved l w = listed_moved (Before ps) (Before qs) before_moved l w

  pub view_moved : (l : List ℕ) → Folders ps has l → Folders qs now (map new l)
  view_moved l w = listed_moved (λ a b. Left (way ps a) (way ps b)) (λ a b. Left (way qs a) (way qs b)) ways_moved l w
