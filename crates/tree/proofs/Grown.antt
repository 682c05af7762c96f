-- The queue that begins with the root grows to the walk: what hangs under a list in order is in order, and at the end everything stands once.
-- Assumes nothing.
use mathlib.Core.Path.{◌≡◌, refl, sym, ap, ◌∙◌}
use mathlib.Core.Bool.{Bool, true, false, ◌&&◌, and-eq-true_iff}
use mathlib.Core.List.{List, [], ◌∷◌, ◌++◌}
use Prim.Native.Nat.{ℕ, zero, suc, ◌-◌, ◌≤◌, ◌<◌}
use native.Mathlib.Nat.{not-suc-le-zero}
use native.Mathlib.Omega.{arith}
use borrow.Author.Tests.{eqb-true, lt-ltb, le-ltb}
use lib.Dec.{ltb}
use lib.ListN.{length, get_or, take}
use Rattle.layout.specs.Answer.{pick}
use Rattle.tree.specs.Facts.{Ruled, Marks}
use Rattle.tree.specs.Table.{parent}
use Rattle.tree.specs.Listed.{times, Every, none, more, Sorted, done, next, Listed}
use Rattle.tree.specs.Way.{way, Before, Walk}
use Rattle.tree.specs.Kids.{hangs, kids_in, kids}
use Rattle.tree.proofs.laws.Counts.{equal, hit, miss, every_map, every_both, every_append, every_take}
use Rattle.tree.proofs.laws.Below.{by_mark, kids_root, kids_not, kids_once, below, smaller}
use Rattle.tree.proofs.laws.Queued.{way_on, Growing, longer, closed, not_there, fallen}
use Rattle.tree.proofs.laws.Ways.{Kid, way_root, before_root, before_kids, before_beside}

-- ── lists in order ──

module _ {Bef : ℕ → ℕ → Type 0} where
  sorted_take : {l : List ℕ} (i : ℕ) → Sorted Bef l → Sorted Bef (take i l)
  sorted_take zero s = done
  sorted_take (suc i) done = done
  sorted_take (suc i) (next e s) = next (every_take i e) (sorted_take i s)

  -- each of b comes after each of a
  pub sorted_append : {a b : List ℕ} → Sorted Bef a → Sorted Bef b → Every (λ y. Every (λ x. Bef x y) a) b → Sorted Bef (a ++ b)
  sorted_append done t f = t
  sorted_append (next e s) t f =
      next (every_append e (every_map (λ y g. first g) f)) (sorted_append s t (every_map (λ y g. others g) f))
    where
      first : {P : ℕ → Type 0} {x : ℕ} {l : List ℕ} → Every P (x ∷ l) → P x
      first (more p g) = p

      others : {P : ℕ → Type 0} {x : ℕ} {l : List ℕ} → Every P (x ∷ l) → Every P l
      others (more p g) = g

-- in one order, and so in another
sorted_by : {P : ℕ → Type 0} {R S : ℕ → ℕ → Type 0} {l : List ℕ} → ((x y : ℕ) → P x → P y → R x y → S x y) → Every P l → Sorted R l → Sorted S l
sorted_by f none done = done
sorted_by f (more {x = x} p e) (next g s) = next (every_map (λ y z. f x y p z.0 z.1) (every_both e g)) (sorted_by f e s)

-- x is marked and at least k, and its parent is p
record From (ps : List ℕ) (has : ℕ → Bool) (k p x : ℕ) : Type 0 where
  least : k ≤ x
  kid : Kid ps p x
  marked : has x ≡ true

-- x is a place, and not the root
record Place (ps : List ℕ) (x : ℕ) : Type 0 where
  some : 0 < x
  there : x < length ps

module _ (ps : List ℕ) (rule : Ruled ps) (has : ℕ → Bool) (marks : Marks ps has) where
  every_in : (m k p : ℕ) → 0 < k → m ≤ length ps - k → Every (From ps has k p) (kids_in m ps has k p)
  unfolding kids_in
  every_in zero k p h j = none
  every_in (suc m) k p h j =
      put (hangs ps has p k) refl
      (every_map (λ x f. record { least = let z = f.least in omega arith; kid = f.kid; marked = f.marked }) (every_in m (suc k) p (omega arith) (omega arith)))
    where
      put : (b : Bool) → hangs ps has p k ≡ b → Every (From ps has k p) (kids_in m ps has (suc k) p) → Every (From ps has k p) (pick b (k ∷ kids_in m ps has (suc k) p) (kids_in m ps has (suc k) p))
      put true e f = more {x = k} (record { least = omega arith; kid = record { some = h; there = omega arith; up = eqb-true _ _ ((and-eq-true_iff (has k) _).0 e).1 }; marked = ((and-eq-true_iff (has k) _).0 e).0 }) f
      put false e f = f

  sorted_in : (m k p : ℕ) → 0 < k → m ≤ length ps - k → Sorted ◌<◌ (kids_in m ps has k p)
  unfolding kids_in
  sorted_in zero k p h j = done
  sorted_in (suc m) k p h j =
      put (hangs ps has p k) (every_in m (suc k) p (omega arith) (omega arith)) (sorted_in m (suc k) p (omega arith) (omega arith))
    where
      put : (b : Bool) → Every (From ps has (suc k) p) (kids_in m ps has (suc k) p) → Sorted ◌<◌ (kids_in m ps has (suc k) p)
          → Sorted ◌<◌ (pick b (k ∷ kids_in m ps has (suc k) p) (kids_in m ps has (suc k) p))
      put true f s = next {x = k} (every_map (λ x g. let z = g.least in omega arith) f) s
      put false f s = s

  pub every_kid : (p : ℕ) → Every (Kid ps p) (kids ps has p)
  unfolding kids
  every_kid p = every_map (λ x f. f.kid) (every_in _ (suc p) p (omega arith) (omega arith))

  pub rising_kids : (p : ℕ) → Sorted ◌<◌ (kids ps has p)
  unfolding kids
  rising_kids p = sorted_in _ (suc p) p (omega arith) (omega arith)

  -- the live places with the parent p, each once, in rising order
  pub kids_listed : (p : ℕ) → Listed (λ x. ltb 0 x && hangs ps has p x) ◌<◌ (kids ps has p)
  kids_listed p = record {
    once = λ x. equal x 0
        (λ e. rw e (kids_root ps has p ∙ sym (ap (λ (b : Bool). pick {A = ℕ} (b && hangs ps has p 0) 1 0) (le-ltb 0 0 (omega arith)))))
        (λ e. by_mark (has x)
        (λ m. let h : 0 < x = omega arith in rw (lt-ltb 0 x h, m) (kids_once ps has p x m (smaller ps rule has marks x h m) (marks.place x m)))
        (λ m. rw (lt-ltb 0 x (omega arith), m) (kids_not ps has p x m)));
    order = rising_kids p;
  }

  sorted_kids : (p : ℕ) → Sorted (Before ps) (kids ps has p)
  sorted_kids p = sorted_by (λ x y k j h. before_beside ps rule h k j) (every_kid p) (rising_kids p)

  -- what hangs under a list that p is before comes after what hangs under p
  across : (p : ℕ) {l : List ℕ} → Every (Before ps p) l → Every (λ y. Every (λ x. Before ps x y) (kids ps has p)) (below ps has l)
  across p none = none
  across p (more {x = q} b e) =
      every_append (every_map (λ y j. every_map (λ x k. before_kids ps rule b k j) (every_kid p)) (every_kid q)) (across p e)

  sorted_below : {l : List ℕ} → Sorted (Before ps) l → Sorted (Before ps) (below ps has l)
  sorted_below done = done
  sorted_below (next {x = p} e s) = sorted_append (sorted_kids p) (sorted_below s) (across p e)

  every_below : (l : List ℕ) → Every (Place ps) (below ps has l)
  every_below [] = none
  every_below (p ∷ l) = every_append (every_map (λ x k. record { some = k.some; there = k.there }) (every_kid p)) (every_below l)

  sorted_grown : (l : List ℕ) → Sorted (Before ps) l → Sorted (Before ps) (0 ∷ below ps has l)
  sorted_grown l s = next (every_map (λ x k. before_root ps rule x k.some k.there) (every_below l)) (sorted_below s)

  -- ── the queue ──

  pub order_turn : {i : ℕ} {q : List ℕ} (g : Growing ps has 0 i q) → i < length q → Sorted (Before ps) q → Sorted (Before ps) (q ++ kids ps has (get_or q i 0))
  order_turn {i} {q} g h o = rw (longer ps rule has marks 0 marks.root g h) (sorted_grown (take (suc i) q) (sorted_take (suc i) o))

  pub root_by : (f x : ℕ) → x < f → x < length ps → times 0 (way ps x) ≡ 1
  root_by zero x h l = absurd (not-suc-le-zero h)
  root_by (suc f) x h l =
      equal x 0
      (λ e. rw e (ap (times 0) (way_root ps) ∙ hit 0 0 [] refl))
      (λ e. let s : 0 < x = omega arith in
      let r = rule.smaller x s l in
      let w = way_on ps rule 0 x s l in
      let z = miss 0 x [] (λ q. omega arith) in
      let i = root_by f (parent ps x) (omega arith) (omega arith) in
      omega arith)

  -- where every turn is taken each live place stands once, since each way starts at the root
  pub order_end : {i : ℕ} {q : List ℕ} → Growing ps has 0 i q → length q ≤ i → Sorted (Before ps) q → Walk ps has q
  order_end {i} {q} g h o = record {
    once = λ k. by_mark (has k)
        (λ m. fallen ps rule has marks 0 q (closed ps rule has marks 0 marks.root g h) k m ∙ root_by (suc k) k (omega arith) (marks.place k m)
        ∙ sym (ap (λ (b : Bool). pick {A = ℕ} b 1 0) m))
        (λ m. not_there ps rule has marks 0 marks.root g k m ∙ sym (ap (λ (b : Bool). pick {A = ℕ} b 1 0) m));
    order = o;
  }
