-- A test that antt computes, and that shows a list to be the walk of a table: each clause of the definition as a Bool.
-- Assumes nothing.
use mathlib.Core.Path.{◌≡◌, refl, subst, ◌∙◌}
use mathlib.Core.Bool.{Bool, true, false, ◌&&◌, and-eq-true_iff}
use mathlib.Core.List.{List, [], ◌∷◌}
use Prim.Native.Nat.{ℕ, zero, suc, ◌≤◌, ◌<◌}
use native.Mathlib.Nat.{not-suc-le-zero}
use native.Mathlib.Omega.{arith}
use borrow.Author.Tests.{eqb-true, ltb-true, ltb-false, leb-true}
use lib.ListN.{length}
use lib.Dec.{eqb, ltb, leb}
use Rattle.layout.specs.Answer.{pick}
use Rattle.layout.proofs.laws.Numbers.{zero_one}
use Rattle.tree.specs.Listed.{times, Every, none, more, Sorted, done, next}
use Rattle.tree.specs.Way.{way, depth, Left, here, there, stops, Before, higher, beside, Walk}
use Rattle.tree.specs.Table.{live}
use Rattle.tree.proofs.laws.Counts.{equal, miss}
use Rattle.tree.proofs.laws.Sound.{marked_there}

false_no : {X : Type 0} → false ≡ true → X
false_no e = zero_one (cc)

abbrev pub left_test : List ℕ → List ℕ → Bool
left_test [] [] = false
left_test [] (b ∷ t) = true
left_test (a ∷ s) [] = false
left_test (a ∷ s) (b ∷ t) = pick (eqb a b) (left_test s t) (ltb a b)

left_tested : (s t : List ℕ) → left_test s t ≡ true → Left s t
left_tested [] [] e = false_no e
left_tested [] (b ∷ t) e = stops
left_tested (a ∷ s) [] e = false_no e
left_tested (a ∷ s) (b ∷ t) e = go (eqb a b) refl (left_tested s t) e
  where
    go : (c : Bool) → eqb a b ≡ c → (left_test s t ≡ true → Left s t) → pick c (left_test s t) (ltb a b) ≡ true → Left (a ∷ s) (b ∷ t)
    go true q f e = subst (λ (x : ℕ). Left (a ∷ s) (x ∷ t)) (eqb-true a b q) (there (f e))
    go false q f e = here (ltb-true a b e)

abbrev pub before_test : List ℕ → ℕ → ℕ → Bool
before_test ps a b = pick (eqb (depth ps a) (depth ps b)) (left_test (way ps a) (way ps b)) (ltb (depth ps a) (depth ps b))

before_tested : (ps : List ℕ) (a b : ℕ) → before_test ps a b ≡ true → Before ps a b
before_tested ps a b e = go (eqb (depth ps a) (depth ps b)) refl e
  where
    go : (c : Bool) → eqb (depth ps a) (depth ps b) ≡ c → pick c (left_test (way ps a) (way ps b)) (ltb (depth ps a) (depth ps b)) ≡ true → Before ps a b
    go true q e = beside (eqb-true (depth ps a) (depth ps b) q) (left_tested (way ps a) (way ps b) e)
    go false q e = higher (ltb-true (depth ps a) (depth ps b) e)

abbrev pub every_test : (ℕ → Bool) → List ℕ → Bool
every_test f [] = true
every_test f (x ∷ l) = f x && every_test f l

every_tested : {P : ℕ → Type 0} (f : ℕ → Bool) → ((x : ℕ) → f x ≡ true → P x) → (l : List ℕ) → every_test f l ≡ true → Every P l
every_tested f g [] e = none
every_tested f g (x ∷ l) e = let h = (and-eq-true_iff (f x) (every_test f l)).0 e in more (g x h.0) (every_tested f g l h.1)

abbrev pub sorted_test : List ℕ → List ℕ → Bool
sorted_test ps [] = true
sorted_test ps (x ∷ l) = every_test (before_test ps x) l && sorted_test ps l

sorted_tested : (ps l : List ℕ) → sorted_test ps l ≡ true → Sorted (Before ps) l
sorted_tested ps [] e = done
sorted_tested ps (x ∷ l) e =
    let h = (and-eq-true_iff (every_test (before_test ps x) l) (sorted_test ps l)).0 e in
    next (every_tested (before_test ps x) (before_tested ps x) l h.0) (sorted_tested ps l h.1)

-- each live number below n once, and no other below n
abbrev pub once_test : (ℕ → Bool) → ℕ → List ℕ → Bool
once_test has zero l = true
once_test has (suc n) l = eqb (times n l) (pick (has n) 1 0) && once_test has n l

once_low : (has : ℕ → Bool) (n : ℕ) (l : List ℕ) → once_test has n l ≡ true → (k : ℕ) → k < n → times k l ≡ pick (has k) 1 0
once_low has zero l e k h = absurd (not-suc-le-zero h)
once_low has (suc n) l e k h =
    let g = (and-eq-true_iff (eqb (times n l) (pick (has n) 1 0)) (once_test has n l)).0 e in
    equal k n (λ q. rw q (eqb-true (times n l) (pick (has n) 1 0) g.0)) (λ q. once_low has n l g.1 k (omega arith))

once_high : (n : ℕ) (l : List ℕ) → every_test (λ x. ltb x n) l ≡ true → (k : ℕ) → n ≤ k → times k l ≡ 0
once_high n [] e k h = refl
once_high n (x ∷ l) e k h =
    let g = (and-eq-true_iff (ltb x n) (every_test (λ x. ltb x n) l)).0 e in
    let j = ltb-true x n g.0 in
    miss k x l (λ q. omega arith) ∙ once_high n l g.1 k h

-- of the places that are live by these marks
abbrev pub walk_test : List ℕ → List ℕ → List ℕ → Bool
walk_test ps ms l = leb (length ms) (length ps) && (once_test (live ms) (length ps) l && (every_test (λ x. ltb x (length ps)) l && sorted_test ps l))

pub tested : (ps ms l : List ℕ) → walk_test ps ms l ≡ true → Walk ps (live ms) l
tested ps ms l e =
    let f = (and-eq-true_iff (leb (length ms) (length ps)) _).0 e in
    let g = (and-eq-true_iff (once_test (live ms) (length ps) l) _).0 f.1 in
    let h = (and-eq-true_iff (every_test (λ x. ltb x (length ps)) l) (sorted_test ps l)).0 g.1 in
    record { once = λ k. go k (ltb k (length ps)) refl (leb-true (length ms) (length ps) f.0) g.0 h.0; order = sorted_tested ps l h.1 }
  where
    dead : (k : ℕ) (b : Bool) → live ms k ≡ b → length ms ≤ k → 0 ≡ pick {A = ℕ} b 1 0
    dead k true e h = absurd (let t = marked_there ms k e in omega arith)
    dead k false e h = refl

    go : (k : ℕ) (b : Bool) → ltb k (length ps) ≡ b → length ms ≤ length ps → once_test (live ms) (length ps) l ≡ true → every_test (λ x. ltb x (length ps)) l ≡ true → times k l ≡ pick (live ms k) 1 0
    go k true q n o v = once_low (live ms) (length ps) l o k (ltb-true k (length ps) q)
    go k false q n o v = once_high (length ps) l v k (ltb-false k (length ps) q) ∙ dead k (live ms k) refl (let r = ltb-false k (length ps) q in omega arith)
