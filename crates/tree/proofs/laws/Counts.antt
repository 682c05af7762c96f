-- How often numbers stand in lists, what holds of every one of a list, and that a list which holds nothing twice and only numbers below n has at most n.
-- Assumes nothing.
use mathlib.Core.Path.{◌≡◌, refl, sym, ap, subst, ◌∙◌}
use mathlib.Core.Bool.{Bool, true, false}
use mathlib.Core.List.{List, [], ◌∷◌, ◌++◌}
use Prim.Native.Nat.{ℕ, zero, suc, ◌+◌, ◌≤◌, ◌<◌}
use native.Mathlib.Nat.{le_refl}
use native.Mathlib.Omega.{arith}
use borrow.Author.Tests.{eq-eqb, ne_eqb, eqb-true, eqb-false}
use lib.ListN.{length, get_or, take, drop, take-append-drop}
use lib.Dec.{eqb}
use Rattle.layout.specs.Answer.{pick}
use Rattle.tree.specs.Listed.{times, Every, none, more}

by : {X : Type 0} (x k : ℕ) (b : Bool) → eqb x k ≡ b → (x ≡ k → X) → ((x ≡ k → ⊥) → X) → X
by x k true e f g = f (eqb-true x k e)
by x k false e f g = g (eqb-false x k e)

-- two numbers are equal or not
pub equal : {X : Type 0} (x k : ℕ) → (x ≡ k → X) → ((x ≡ k → ⊥) → X) → X
equal x k f g = by x k (eqb x k) refl f g

pub hit : (k x : ℕ) (l : List ℕ) → k ≡ x → times k (x ∷ l) ≡ suc (times k l)
hit k x l e = rw (eq-eqb k x e) (omega arith)

pub miss : (k x : ℕ) (l : List ℕ) → (k ≡ x → ⊥) → times k (x ∷ l) ≡ times k l
miss k x l e = rw (ne_eqb k x e) (omega arith)

pub times_append : (k : ℕ) (a b : List ℕ) → times k (a ++ b) ≡ times k a + times k b
times_append k [] b = omega arith
times_append k (x ∷ a) b = let h = times_append k a b in omega arith

pub times_take : (k i : ℕ) (l : List ℕ) → times k (take i l) ≤ times k l
times_take k i l =
    let h = times_append k (take i l) (drop i l) in
    let g : times k l ≡ times k (take i l) + times k (drop i l) = rw (take-append-drop i l) at h in
    omega arith

-- ── a list that holds nothing twice, and only numbers below n, is at most n long ──

abbrev without : ℕ → List ℕ → List ℕ
without k [] = []
without k (x ∷ l) = pick (eqb k x) (without k l) (x ∷ without k l)

size_step : (b : Bool) (x t : ℕ) (l w : List ℕ) → length l ≡ t + length w → suc (length l) ≡ (pick b 1 0 + t) + length (pick b w (x ∷ w))
size_step true x t l w e = omega arith
size_step false x t l w e = omega arith

size : (k : ℕ) (l : List ℕ) → length l ≡ times k l + length (without k l)
size k [] = refl
size k (x ∷ l) = size_step (eqb k x) x (times k l) l (without k l) (size k l)

gone : (k : ℕ) (l : List ℕ) → times k (without k l) ≡ 0
gone k [] = refl
gone k (x ∷ l) = equal k x (λ e. rw (eq-eqb k x e) (gone k l)) (λ e. rw (ne_eqb k x e) (miss k x (without k l) e ∙ gone k l))

stay_step : (j x : ℕ) (b : Bool) (w : List ℕ) → (b ≡ true → j ≡ x → ⊥) → times j (pick b w (x ∷ w)) ≡ pick (eqb j x) 1 0 + times j w
stay_step j x true w e = rw (ne_eqb j x (e refl)) (omega arith)
stay_step j x false w e = refl

stay : (j k : ℕ) (l : List ℕ) → (j ≡ k → ⊥) → times j (without k l) ≡ times j l
stay j k [] e = refl
stay j k (x ∷ l) e =
    stay_step j x (eqb k x) (without k l) (λ t q. let h = eqb-true k x t in e (q ∙ sym h))
    ∙ ap (λ (n : ℕ). pick (eqb j x) 1 0 + n) (stay j k l e)

pub pigeon : (n : ℕ) (l : List ℕ) → ((k : ℕ) → times k l ≤ 1) → ((k : ℕ) → n ≤ k → times k l ≡ 0) → length l ≤ n
pigeon zero [] f g = omega arith
pigeon zero (x ∷ l) f g = absurd (let h = g x (omega arith) in let j = hit x x l refl in omega arith)
pigeon (suc n) l f g =
    let w : length (without n l) ≤ n = pigeon n (without n l)
    (λ k. equal k n (λ e. rw e (let z = gone n l in omega arith)) (λ e. let z = stay k n l e in let y = f k in omega arith))
    (λ k h. equal k n (λ e. rw e (gone n l)) (λ e. stay k n l e ∙ g k (omega arith)))
    in
    let s = size n l in
    let o = f n in
    omega arith

-- lists that hold the same, each as often, are as long
size_none : (b : List ℕ) → ((k : ℕ) → 0 ≡ times k b) → 0 ≡ length b
size_none [] f = refl
size_none (y ∷ b) f = absurd (let e = f y in let g = hit y y b refl in omega arith)

size_by : (n : ℕ) (a b : List ℕ) → length a ≤ n → ((k : ℕ) → times k a ≡ times k b) → length a ≡ length b
size_by zero a b h f = go a h f
  where
    go : (a : List ℕ) → length a ≤ 0 → ((k : ℕ) → times k a ≡ times k b) → length a ≡ length b
    go [] h f = size_none b f
    go (x ∷ a) h f = absurd (omega arith)
size_by (suc n) a b h f = go a h f (λ c d l g. size_by n c d l g)
  where
    go : (a : List ℕ) → length a ≤ suc n → ((k : ℕ) → times k a ≡ times k b) → ((c d : List ℕ) → length c ≤ n → ((k : ℕ) → times k c ≡ times k d) → length c ≡ length d)
        → length a ≡ length b
    go [] h f r = size_none b f
    go (x ∷ a) h f r =
        let g = hit x x a refl in
        let s = size x (x ∷ a) in
        let t = size x b in
        let e = f x in
        let i = r (without x (x ∷ a)) (without x b) (omega arith)
        (λ k. equal k x (λ q. rw q (gone x (x ∷ a) ∙ sym (gone x b))) (λ q. stay k x (x ∷ a) q ∙ f k ∙ sym (stay k x b q)))
        in
        omega arith

pub same_size : (a b : List ℕ) → ((k : ℕ) → times k a ≡ times k b) → length a ≡ length b
same_size a b f = size_by (length a) a b (le_refl (length a)) f

-- ── what holds of every one ──

pub every_at : {P : ℕ → Type 0} (k : ℕ) {l : List ℕ} → Every P l → 0 < times k l → P k
every_at k none h = absurd (omega arith)
every_at {P} k (more {x} {l} p e) h =
    equal k x (λ q. subst P (sym q) p) (λ q. every_at k e (let m = miss k x l q in omega arith))

pub every_map : {P Q : ℕ → Type 0} {l : List ℕ} → ((x : ℕ) → P x → Q x) → Every P l → Every Q l
every_map f none = none
every_map f (more p e) = more (f _ p) (every_map f e)

pub every_both : {P Q : ℕ → Type 0} {l : List ℕ} → Every P l → Every Q l → Every (λ x. P x × Q x) l
every_both none none = none
every_both (more p e) (more q f) = more (p, q) (every_both e f)

pub every_append : {P : ℕ → Type 0} {a b : List ℕ} → Every P a → Every P b → Every P (a ++ b)
every_append none f = f
every_append (more p e) f = more p (every_append e f)

pub every_get : {P : ℕ → Type 0} {l : List ℕ} (i : ℕ) → Every P l → i < length l → P (get_or l i 0)
every_get i none h = absurd (omega arith)
every_get zero (more p e) h = p
every_get (suc i) (more p e) h = every_get i e (omega arith)

pub every_take : {P : ℕ → Type 0} {l : List ℕ} (i : ℕ) → Every P l → Every P (take i l)
every_take zero e = none
every_take (suc i) none = none
every_take (suc i) (more p e) = more p (every_take i e)
