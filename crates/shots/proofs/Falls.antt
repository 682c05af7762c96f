-- Deleting down the links: the queue of what ends, what is cleared at its places, the link that goes past the place; and the links that are left.
-- Assumes nothing.
use mathlib.Core.Path.{◌≡◌, refl, sym, ap, ◌∙◌}
use mathlib.Core.Bool.{Bool, true, false, ◌&&◌}
use mathlib.Core.List.{List, [], ◌∷◌, ◌++◌}
use Prim.Native.Nat.{ℕ, suc, ◌+◌, ◌-◌, ◌≤◌, ◌<◌}
use native.Mathlib.Numerals.{add-one}
use native.Mathlib.Omega.{arith}
use borrow.Author.Tests.{lt-ltb, le-ltb, eq-eqb, ne_eqb}
use lib.Dec.{ltb}
use lib.ListN.{length, get_or, take, drop, set, length-set}
use lib.Seq.{get_or-set_same, get_or-set_other, get_or-take, take-suc, take-append_seam, drop-set-lt}
use Rattle.layout.specs.Answer.{pick}
use Rattle.layout.specs.Written.{Put}
use Rattle.tree.specs.Facts.{Ruled, Marks}
use Rattle.tree.specs.Links.{Child, Lowest, lowest, nobody, Links}
use Rattle.tree.specs.Listed.{times}
use Rattle.tree.specs.Table.{parent, live}
use Rattle.tree.specs.Way.{way}
use Rattle.tree.proofs.laws.Below.{by_mark, clash}
use Rattle.tree.proofs.laws.Counts.{equal, hit, miss, times_append}
use Rattle.tree.proofs.laws.Queued.{Queue, queue_fits, live_there, fallen_once, way_on}
use Rattle.shots.specs.Collected.{ahead}
use Rattle.shots.specs.Deleted.{under, ended_from}
use Rattle.shots.specs.Facts.{Cleared, Skipped, Fronted, Falling}
use Rattle.shots.proofs.Endings.{itself, not_live, ended_put}

-- ── the queue ──

pub record Downward (ps : List ℕ) (has : ℕ → Bool) (place : ℕ) (old now : List ℕ) (n i : ℕ) : Type 0 where
  pub list : List ℕ
  pub queue : Queue ps has place list old now n i

-- the first store of the code changed the first place alone
pub downward_end : {ps : List ℕ} {has : ℕ → Bool} {place : ℕ} {old now : List ℕ} {n i : ℕ} → Ruled ps → Marks ps has → has place ≡ true → length ps ≤ length old → Downward ps has place (set old 0 place) now n i → n ≤ i
    → Falling ps has place old n now
unfolding ahead
downward_end {ps} {has} {place} {old} rule marks living fits w h =
    let q = w.queue in
    let e = q.count in
    let p : 0 < length w.list = rw q.growing.grows (omega arith) in
    let f = queue_fits ps rule has marks living q in
    record {
      list = w.list;
      inside = record { inside = λ j l. marks.place (get_or w.list j 0) (live_there ps rule has marks place living q.growing j l) };
      once = fallen_once ps rule has marks place living q.growing (omega arith);
      fronted = record {
        list = q.places ∙ ap (λ (x : List ℕ). w.list ++ x) (drop-set-lt (length w.list) old 0 place p);
        size = e;
        room = omega arith;
      };
    }

-- what stands at the front
pub front_taken : {front old new : List ℕ} {n : ℕ} → Fronted front old new n → take n new ≡ front
unfolding ahead
front_taken {front} {old} {new} {n} f = ap (take n) f.list ∙ ap (λ (k : ℕ). take k (front ++ drop (length front) old)) f.size ∙ take-append_seam front (drop (length front) old)

-- ── what is cleared ──

module _ {q old new : List ℕ} (c : Cleared q old new) (k : ℕ) where
  cleared_in : 0 < times k q → get_or new k 0 ≡ 0
  cleared_in h = c.each k ∙ rw (lt-ltb 0 (times k q) h)

  cleared_out : times k q ≡ 0 → get_or new k 0 ≡ get_or old k 0
  cleared_out h = c.each k ∙ rw (le-ltb 0 (times k q) (omega arith))

  cleared_none : get_or old k 0 ≡ 0 → get_or new k 0 ≡ 0
  cleared_none e = equal (times k q) 0 (λ z. cleared_out z ∙ e) (λ z. cleared_in (omega arith))

pub clear_turn : (q : List ℕ) (i : ℕ) {old now : List ℕ} → Cleared (take i q) old now → i < length q → get_or q i 0 < length old → Cleared (take (i + 1) q) old (set now (get_or q i 0) 0)
clear_turn q i {old} {now} c h l =
    let at = get_or q i 0 in
    let t : take (i + 1) q ≡ take i q ++ (at ∷ []) = rw add-one (take-suc q i 0 h) in
    let long = c.long in
    record {
      long = length-set now at 0 ∙ long;
      each = λ k.
          let n : times k (take (i + 1) q) ≡ times k (take i q) + times k (at ∷ []) = ap (times k) t ∙ times_append k (take i q) (at ∷ []) in
          equal k at
          (λ e. let m = hit k at [] e in
          let f : ltb 0 (times k (take (i + 1) q)) ≡ true = lt-ltb 0 (times k (take (i + 1) q)) (omega arith) in
          rw f (rw e (get_or-set_same now at 0 0 (omega arith))))
          (λ e. let m = miss k at [] e in
          get_or-set_other now at k 0 0 e ∙ c.each k ∙ ap (λ (n : ℕ). pick (ltb 0 n) 0 (get_or old k 0)) (let z : times k (take i q) ≡ times k (take (i + 1) q) = omega arith in z));
    }

-- ── the link that names the place ──

module _ {place behind : ℕ} {old new : List ℕ} (c : Skipped place behind old new) (k : ℕ) where
  skipped_it : get_or old k 0 ≡ place → get_or new k 0 ≡ behind
  skipped_it e = c.each k ∙ rw (eq-eqb (get_or old k 0) place e)

  skipped_not : (get_or old k 0 ≡ place → ⊥) → get_or new k 0 ≡ get_or old k 0
  skipped_not e = c.each k ∙ rw (ne_eqb (get_or old k 0) place e)

-- nothing names the place
skip_none : {place behind : ℕ} {l : List ℕ} → ((k : ℕ) → get_or l k 0 ≡ place → ⊥) → Skipped place behind l l
skip_none {place} {behind} {l} f = record { long = refl; each = λ k. rw (ne_eqb (get_or l k 0) place (f k)) }

-- one place does, and names another now
skip_one : {place behind : ℕ} {l : List ℕ} (at : ℕ) → at < length l → get_or l at 0 ≡ place → ((k : ℕ) → get_or l k 0 ≡ place → k ≡ at) → Skipped place behind l (set l at behind)
skip_one {place} {behind} {l} at h e f = record {
  long = length-set l at behind;
  each = λ k. equal k at
      (λ q. rw (q, eq-eqb (get_or l at 0) place e) (get_or-set_same l at behind 0 h))
      (λ q. rw (ne_eqb (get_or l k 0) place (λ z. q (f k z))) (get_or-set_other l at k behind 0 q));
}

-- a link that is not 0 names a child, the lowest
pub named : {ps : List ℕ} {has : ℕ → Bool} {p m k : ℕ} → Lowest ps has p m k → 0 < k → Child ps has p m k
named (lowest c f) h = c
named (nobody f) h = absurd (omega arith)

pub lowest_of : {ps : List ℕ} {has : ℕ → Bool} {p m k x : ℕ} → Lowest ps has p m k → 0 < m → Child ps has p m x → (0 < k) × (k ≤ x)
lowest_of {x = x} (lowest c f) h d = let l = c.least in (omega arith, f x d)
lowest_of {x = x} (nobody f) h d = absurd (f x d)

-- the link of a child of p is to the next
pub next_from : {ps : List ℕ} {has : ℕ → Bool} {fs ns : List ℕ} → Links ps has fs ns → {p k : ℕ} → Child ps has p 1 k → Lowest ps has p (suc k) (get_or ns k 0)
next_from links {k = k} c = rw c.up at (links.next k c.least c.living)

-- a live place before the place with the same parent
pub record Sibling (ps : List ℕ) (has : ℕ → Bool) (place k : ℕ) : Type 0 where
  pub some : 0 < k
  pub living : has k ≡ true
  pub up : parent ps k ≡ parent ps place
  pub before : k < place

module _ {ps : List ℕ} {has : ℕ → Bool} {fs ns : List ℕ} (marks : Marks ps has) (links : Links ps has fs ns) {place : ℕ} (s : 0 < place) (living : has place ≡ true) where
  its : {m : ℕ} → m ≤ place → Child ps has (parent ps place) m place
  its h = record { least = h; living = living; up = refl }

  first_of : Lowest ps has (parent ps place) 1 (get_or fs (parent ps place) 0)
  first_of = links.first (parent ps place) (marks.up place s living)

  -- only the parent's first child can be the place
  first_names : (x : ℕ) → get_or fs x 0 ≡ place → x ≡ parent ps place
  first_names x e =
      by_mark (has x)
      (λ m. let n : Lowest ps has x 1 place = rw e at (links.first x m) in sym (named n s).up)
      (λ m. absurd (let z = (links.ended x m).0 in omega arith))

  -- and only a sibling before it has it behind
  next_names : (x : ℕ) → get_or ns x 0 ≡ place → Sibling ps has place x
  next_names x e =
      by_mark (has x)
      (λ m. equal x 0
      (λ z. absurd (let r : get_or ns x 0 ≡ 0 = rw z links.root in omega arith))
      (λ z. let n : Lowest ps has (parent ps x) (suc x) place = rw e at (links.next x (omega arith) m) in
      let c = named n s in
      record { some = omega arith; living = m; up = sym c.up; before = c.least }))
      (λ m. absurd (let z = (links.ended x m).1 in omega arith))

  sibling_child : {k m : ℕ} → Sibling ps has place k → m ≤ k → Child ps has (parent ps place) m k
  sibling_child b h = record { least = h; living = b.living; up = b.up }

  next_of : {k : ℕ} → Sibling ps has place k → Lowest ps has (parent ps place) (suc k) (get_or ns k 0)
  next_of b = next_from links (sibling_child b b.some)

  -- so one at most
  next_one : {x y : ℕ} → get_or ns x 0 ≡ place → get_or ns y 0 ≡ place → y ≤ x
  next_one {x} {y} e f =
      let a = next_names x e in
      let b = next_names y f in
      let n : Lowest ps has (parent ps place) (suc x) place = rw e at (next_of a) in
      equal y x (λ z. omega arith) (λ z. go x y (λ h. let l = (lowest_of n (omega arith) (sibling_child b h)).1 in let u = b.before in omega arith))
    where
      go : (m k : ℕ) → (suc m ≤ k → ⊥) → k ≤ m
      go m k f = equal (k - m) 0 (λ z. omega arith) (λ z. absurd (f (omega arith)))

  pub mend_first : get_or fs (parent ps place) 0 ≡ place → parent ps place < length fs → {behind : ℕ} → Skipped place behind fs (set fs (parent ps place) behind) × Skipped place behind ns ns
  mend_first e h =
      let n : Lowest ps has (parent ps place) 1 place = rw e at first_of in (
        skip_one (parent ps place) h e first_names,
        skip_none (λ x z. let b = next_names x z in let l = (lowest_of n (omega arith) (sibling_child b b.some)).1 in let u = b.before in omega arith),
      )

  pub mend_next : {k : ℕ} → (get_or fs (parent ps place) 0 ≡ place → ⊥) → k < length ns → get_or ns k 0 ≡ place → {behind : ℕ} → Skipped place behind fs fs × Skipped place behind ns (set ns k behind)
  mend_next {k} f h e = (
    skip_none (λ x z. f (ap (λ (i : ℕ). get_or fs i 0) (sym (first_names x z)) ∙ z)),
    skip_one k h e (λ x z. let a = next_one z e in let b = next_one e z in omega arith),
  )

  step : {m k : ℕ} → 0 < m → m ≤ place → Lowest ps has (parent ps place) m k → (k ≡ place → ⊥) → Sibling ps has place k
  step o h n f =
      let l = lowest_of n o (its h) in
      let c = named n l.0 in
      let b = l.1 in
      record { some = l.0; living = c.living; up = c.up; before = omega arith }

  -- along the chain
  pub sibling_first : (get_or fs (parent ps place) 0 ≡ place → ⊥) → Sibling ps has place (get_or fs (parent ps place) 0)
  sibling_first f = step (omega arith) s first_of f

  pub sibling_next : {k : ℕ} → Sibling ps has place k → (get_or ns k 0 ≡ place → ⊥) → Sibling ps has place (get_or ns k 0) × (k < get_or ns k 0)
  sibling_next {k} b f =
      let n = next_of b in
      let r = step (omega arith) b.before n f in
      (r, (named n r.some).least)

-- ── the links that are left ──

module _ {ps : List ℕ} {has after : ℕ → Bool} (rule : Ruled ps) (marks : Marks ps has) {place : ℕ} (s : 0 < place) (living : has place ≡ true)
    (stays : (k : ℕ) → has k ≡ true → times place (way ps k) ≡ 0 → after k ≡ true)
    (was : (k : ℕ) → after k ≡ true → (has k ≡ true) × (times place (way ps k) ≡ 0)) where
  child_was : {p m x : ℕ} → Child ps after p m x → Child ps has p m x
  child_was {x = x} c = record { least = c.least; living = (was x c.living).0; up = c.up }

  child_other : {x : ℕ} → after x ≡ true → x ≡ place → ⊥
  child_other {x} e z =
      let a : times place (way ps place) ≡ 0 = rw z at (was x e).1 in
      let i = itself ps rule place s (marks.place place living) in
      omega arith

  child_stays : {p m x : ℕ} → after p ≡ true → 0 < m → Child ps has p m x → (x ≡ place → ⊥) → Child ps after p m x
  child_stays {p} {m} {x} e o c f =
      let l = c.least in
      let w = way_on ps rule place x (omega arith) (marks.place x c.living) in
      let u : times place (way ps (parent ps x)) ≡ 0 = rw c.up (was p e).1 in
      let n = miss place x [] (λ z. f (sym z)) in
      record { least = l; living = stays x c.living (omega arith); up = c.up }

  lowest_stays : {p m k : ℕ} → after p ≡ true → 0 < m → Lowest ps has p m k → (k ≡ place → ⊥) → Lowest ps after p m k
  lowest_stays {k = k} e o (lowest c f) n = lowest {k = k} (child_stays e o c n) (λ x d. f x (child_was d))
  lowest_stays e o (nobody f) n = nobody (λ x d. f x (child_was d))

  -- none stands between
  lowest_wide : {p m n k : ℕ} → m ≤ n → ((x : ℕ) → Child ps after p m x → n ≤ x) → Lowest ps after p n k → Lowest ps after p m k
  lowest_wide {k = k} h g (lowest c f) =
      lowest {k = k} (record { least = let l = c.least in omega arith; living = c.living; up = c.up }) (λ x d. f x (record { least = g x d; living = d.living; up = d.up }))
  lowest_wide h g (nobody f) = nobody (λ x d. f x (record { least = g x d; living = d.living; up = d.up }))

  other_than : {p k : ℕ} → Lowest ps has p (suc place) k → k ≡ place → ⊥
  other_than (lowest c f) z = let l = c.least in omega arith
  other_than (nobody f) z = omega arith

  lowest_past : {p m k : ℕ} → after p ≡ true → 0 < m → Lowest ps has p m place → Lowest ps has p (suc place) k → Lowest ps after p m k
  lowest_past {p} {m} e o a b =
      let l = (named a s).least in
      lowest_wide (omega arith)
      (λ x d. let g = (lowest_of a o (child_was d)).1 in equal x place (λ z. absurd (child_other d.living z)) (λ z. omega arith))
      (lowest_stays e (omega arith) b (other_than b))

  skipped : {p m behind : ℕ} {l l' : List ℕ} → Skipped place behind l l' → (k : ℕ) → after p ≡ true → 0 < m → Lowest ps has p m (get_or l k 0) → Lowest ps has (parent ps place) (suc place) behind
      → Lowest ps after p m (get_or l' k 0)
  skipped {p} {m} {behind} {l} x k e o a b =
      equal (get_or l k 0) place
      (λ z. let n : Lowest ps has p m place = rw z at a in
      rw (skipped_it x k z) (lowest_past e o n (rw (named n s).up at b)))
      (λ z. rw (skipped_not x k z) (lowest_stays e o a z))

  module _ (q : List ℕ) (once : (k : ℕ) → times k q ≡ pick (has k && under ps place k) 1 0) where
    spared : (k : ℕ) → after k ≡ true → times k q ≡ 0
    spared k e = let z = (was k e).1 in once k ∙ rw (le-ltb 0 (times place (way ps k)) (omega arith)) (go (has k))
      where
        go : (b : Bool) → pick {A = ℕ} (b && false) 1 0 ≡ 0
        go true = refl
        go false = refl

    gone : (k : ℕ) → after k ≡ false → has k ≡ true → 0 < times k q
    gone k e m =
        let h : 0 < times place (way ps k) = equal (times place (way ps k)) 0 (λ z. absurd (clash (after k) (stays k m z) e)) (λ z. omega arith) in
        let z : times k q ≡ 1 = once k ∙ rw (m, lt-ltb 0 (times place (way ps k)) h) in
        omega arith

    module _ {fs ns fs₁ ns₁ fs₂ ns₂ : List ℕ} (links : Links ps has fs ns) (a : Skipped place (get_or ns place 0) fs fs₁) (b : Skipped place (get_or ns place 0) ns ns₁)
        (c : Cleared q fs₁ fs₂) (d : Cleared q ns₁ ns₂) where
      none : {behind : ℕ} {l l₁ l₂ : List ℕ} → Skipped place behind l l₁ → Cleared q l₁ l₂ → (k : ℕ) → get_or l k 0 ≡ 0 → get_or l₂ k 0 ≡ 0
      none x y k z = cleared_none y k (skipped_not x k (λ e. omega arith) ∙ z)

      ends : {behind : ℕ} {l l₁ l₂ : List ℕ} → Skipped place behind l l₁ → Cleared q l₁ l₂ → (k : ℕ) → after k ≡ false → (has k ≡ false → get_or l k 0 ≡ 0) → get_or l₂ k 0 ≡ 0
      ends x y k e f = by_mark (has k) (λ m. cleared_in y k (gone k e m)) (λ m. none x y k (f m))

      up : (k : ℕ) → 0 < k → after k ≡ true → after (parent ps k) ≡ true
      up k h e =
          let w = was k e in
          let z = w.1 in
          let v = way_on ps rule place k h (marks.place k w.0) in
          stays (parent ps k) (marks.up k h w.0) (omega arith)

      pub links_left : Links ps after fs₂ ns₂
      links_left = record {
        firsts = c.long ∙ a.long ∙ links.firsts;
        nexts = d.long ∙ b.long ∙ links.nexts;
        first = λ p e. rw (cleared_out c p (spared p e)) (skipped a p e (omega arith) (links.first p (was p e).0) (links.next place s living));
        next = λ k h e. rw (cleared_out d k (spared k e)) (skipped b k (up k h e) (omega arith) (links.next k h (was k e).0) (links.next place s living));
        root = none b d 0 links.root;
        ended = λ k e. (ends a c k e (λ m. (links.ended k m).0), ends b d k e (λ m. (links.ended k m).1));
      }

-- ── the marks that are left ──

pub marks_left : {ps old new q : List ℕ} (place : ℕ) → Marks ps (live (take (length ps) old)) → length ps ≤ length old → ((k : ℕ) → times k q ≡ pick (live (take (length ps) old) k && under ps place k) 1 0)
    → Cleared q old new → Put old 0 (ended_from 0 ps place (take (length ps) old)) new (length ps)
marks_left {ps} {old} {new} {q} place marks fits once c = ended_put ps old fits place new c.long done left
  where
    picks : (b : Bool) (x : ℕ) → pick {A = ℕ} (ltb 0 (pick b 1 0)) 0 x ≡ pick b 0 x
    picks true x = refl
    picks false x = refl

    empty : (b : Bool) {x : ℕ} → x ≡ 0 → 0 ≡ pick b 0 x
    empty true e = refl
    empty false e = sym e

    done : (i : ℕ) → i < length ps → get_or new i 0 ≡ pick (under ps place i) 0 (get_or old i 0)
    done i h =
        by_mark (live (take (length ps) old) i)
        (λ m. let n : times i q ≡ pick (under ps place i) 1 0 = once i ∙ rw m in
        c.each i ∙ ap (λ (n : ℕ). pick (ltb 0 n) 0 (get_or old i 0)) n ∙ picks (under ps place i) (get_or old i 0))
        (λ m. let z : get_or old i 0 ≡ 0 = sym (get_or-take (length ps) old i 0 h) ∙ not_live (take (length ps) old) i (λ e. clash (live (take (length ps) old) i) e m) in
        cleared_none c i z ∙ empty (under ps place i) z)

    left : (i : ℕ) → length ps ≤ i → get_or new i 0 ≡ get_or old i 0
    left i h = cleared_out c i (once i ∙ rw (by_mark (live (take (length ps) old) i) (λ m. absurd (let l = marks.place i m in omega arith)) (λ m. m)))
