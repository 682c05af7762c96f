-- Deleting: the pass upward. A place behind the deleted one ends exactly where its parent is not live any more; before it nothing hangs under it.
-- Assumes nothing.
use mathlib.Core.Path.{◌≡◌, refl, sym, ap, ◌∙◌}
use mathlib.Core.Bool.{Bool, true, false}
use mathlib.Core.List.{List, [], ◌∷◌, ◌++◌}
use Prim.Native.Nat.{ℕ, zero, suc, ◌+◌, ◌-◌, ◌≤◌, ◌<◌}
use native.Mathlib.Nat.{add-zero, zero-add, add-suc, suc-add, not-suc-le-zero}
use native.Mathlib.Omega.{arith}
use borrow.Author.Tests.{lt-ltb, le-ltb, ltb-true}
use lib.ListN.{length, get_or, take, drop, set, length-set, length-append, length-drop, get_or-append}
use lib.Seq.{get_or-set_same, get_or-set_other, get_or-take, get_or-drop, get_or-append-add, length-take-le, ext_get_or}
use Rattle.layout.specs.Answer.{pick}
use Rattle.layout.specs.Written.{Put}
use Rattle.layout.proofs.laws.Writing.{put_front}
use Rattle.tree.specs.Facts.{Ruled, Marks}
use Rattle.tree.specs.Listed.{times}
use Rattle.tree.specs.Table.{parent, live}
use Rattle.tree.specs.Way.{way}
use Rattle.tree.proofs.laws.Below.{by_less}
use Rattle.tree.proofs.laws.Counts.{equal, hit, miss}
use Rattle.tree.proofs.laws.Queued.{way_on, way_past}
use Rattle.tree.proofs.laws.Sound.{marked_there}
use Rattle.shots.specs.Deleted.{under, ended_from}

pub ended_long : (k : ℕ) (ps : List ℕ) (place : ℕ) (ms : List ℕ) → length (ended_from k ps place ms) ≡ length ms
unfolding ended_from
ended_long k ps place [] = refl
ended_long k ps place (m ∷ ms) = ap suc (ended_long (suc k) ps place ms)

pub ended_at : (k : ℕ) (ps : List ℕ) (place : ℕ) (ms : List ℕ) (i : ℕ) → i < length ms → get_or (ended_from k ps place ms) i 0 ≡ pick (under ps place (k + i)) 0 (get_or ms i 0)
unfolding ended_from
ended_at k ps place [] i h = absurd (not-suc-le-zero h)
ended_at k ps place (m ∷ ms) zero h = rw add-zero
ended_at k ps place (m ∷ ms) (suc i) h = ended_at (suc k) ps place ms i (omega arith) ∙ rw (add-suc k i, suc-add k i)

-- those below k are as they shall be, the others as they were
pub record Ending (ps : List ℕ) (place : ℕ) (ms₀ ms : List ℕ) (k : ℕ) : Type 0 where
  pub long : length ms ≡ length ms₀
  pub done : (j : ℕ) → j < k → get_or ms j 0 ≡ pick (under ps place j) 0 (get_or ms₀ j 0)
  pub left : (j : ℕ) → k ≤ j → get_or ms j 0 ≡ get_or ms₀ j 0
  pub within : k ≤ length ps
  pub past : place < k

module _ (ps : List ℕ) (place x j : ℕ) where
  ends_if : 0 < times place (way ps j) → pick (under ps place j) 0 x ≡ 0
  ends_if h = rw (lt-ltb 0 (times place (way ps j)) h)

  stays_if : times place (way ps j) ≡ 0 → pick (under ps place j) 0 x ≡ x
  stays_if h = rw (le-ltb 0 (times place (way ps j)) (omega arith))

module _ (ps : List ℕ) (rule : Ruled ps) (place : ℕ) where
  pub itself : 0 < place → place < length ps → 0 < times place (way ps place)
  itself s l =
      let w = way_on ps rule place place s l in
      let z = hit place place [] refl in
      omega arith

pub not_live : (ms : List ℕ) (k : ℕ) → (live ms k ≡ true → ⊥) → get_or ms k 0 ≡ 0
not_live ms k f = equal (get_or ms k 0) 0 (λ e. e) (λ e. absurd (f (lt-ltb 0 (get_or ms k 0) (omega arith))))

live_not : (ms : List ℕ) (k : ℕ) → live ms k ≡ true → get_or ms k 0 ≡ 0 → ⊥
live_not ms k e z = let f = le-ltb 0 (get_or ms k 0) (omega arith) in let q : ◌≡◌ {A = Bool} true false = sym e ∙ f in let o : ◌≡◌ {A = ℕ} 0 1 = cc in omega arith

-- marks that are as they shall be up to the count, and as they were behind it
module _ (ps old : List ℕ) (even : length ps ≤ length old) (place : ℕ) where
  abbrev all : List ℕ
  all = ended_from 0 ps place (take (length ps) old)

  all_long : length all ≡ length ps
  all_long = ended_long 0 ps place (take (length ps) old) ∙ length-take-le (length ps) old even

  module _ (ms : List ℕ) (long : length ms ≡ length old) (done : (i : ℕ) → i < length ps → get_or ms i 0 ≡ pick (under ps place i) 0 (get_or old i 0)) (left : (i : ℕ) → length ps ≤ i → get_or ms i 0 ≡ get_or old i 0) where
    each : (i : ℕ) → get_or ms i 0 ≡ get_or (all ++ drop (length all) old) i 0
    each i = by_less i (length ps) _ refl
        (λ l. let a = all_long in
        let t = length-take-le (length ps) old even in
        done i l ∙ ap (λ (x : ℕ). pick (under ps place i) 0 x) (sym (get_or-take (length ps) old i 0 l))
        ∙ ap (λ (j : ℕ). pick (under ps place j) 0 (get_or (take (length ps) old) i 0)) (sym (zero-add i))
        ∙ sym (ended_at 0 ps place (take (length ps) old) i (omega arith))
        ∙ sym (get_or-append all (drop (length all) old) 0 i (omega arith)))
        (λ l. let a = all_long in
        let z : i ≡ length all + (i - length all) = omega arith in
        left i l ∙ ap (λ (j : ℕ). get_or old j 0) z ∙ sym (get_or-drop (length all) old (i - length all) 0)
        ∙ sym (get_or-append-add all (drop (length all) old) (i - length all) 0) ∙ ap (λ (j : ℕ). get_or (all ++ drop (length all) old) j 0) (sym z))

    pub ended_put : Put old 0 (ended_from 0 ps place (take (length ps) old)) ms (length ps)
    ended_put =
        let a = all_long in
        let d = length-append all (drop (length all) old) in
        let f = length-drop (length all) old in
        record {
          bytes = ext_get_or 0 ms (all ++ drop (length all) old) (omega arith) (λ i b. each i) ∙ sym (put_front old all (omega arith));
          place = omega arith;
        }

module _ (ps : List ℕ) (rule : Ruled ps) (old : List ℕ) (even : length ps ≤ length old) (marks : Marks ps (live (take (length ps) old))) (place : ℕ) (s : 0 < place) (l : place < length ps) where
  pub ending_start : Ending ps place (set old place 0) (set old place 0) (place + 1)
  ending_start = record {
    long = refl;
    done = λ j h. equal j place
        (λ e. rw e (get_or-set_same old place 0 0 (omega arith) ∙ sym (ends_if ps place (get_or (set old place 0) place 0) place (itself ps rule place s l))))
        (λ e. sym (stays_if ps place (get_or (set old place 0) j 0) j (way_past ps rule place j (omega arith) (omega arith))));
    left = λ j h. refl;
    within = omega arith;
    past = omega arith;
  }

  module _ {ms : List ℕ} {k : ℕ} (e : Ending ps place (set old place 0) ms k) (h : k < length ps) where
    up : parent ps k < k
    up = let p = e.past in rule.smaller k (omega arith) h

    other : times place (k ∷ []) ≡ 0
    other = let p = e.past in miss place k [] (λ q. omega arith)

    way_k : times place (way ps k) ≡ times place (way ps (parent ps k))
    way_k = let p = e.past in let w = way_on ps rule place k (omega arith) h in let o = other in omega arith

    -- a place that was not live before
    was : get_or old (parent ps k) 0 ≡ 0 → get_or old k 0 ≡ 0
    was z =
        let p = e.past in
        let u = up in
        let gp = get_or-take (length ps) old (parent ps k) 0 (omega arith) in
        let gk = get_or-take (length ps) old k 0 h in
        let n = not_live (take (length ps) old) k (λ m. live_not (take (length ps) old) (parent ps k) (marks.up k (omega arith) m) (gp ∙ z)) in
        sym gk ∙ n

    ends_k : get_or ms (parent ps k) 0 ≡ 0 → 0 ≡ pick (under ps place k) 0 (get_or (set old place 0) k 0)
    ends_k z =
        let u = up in
        let d = e.done (parent ps k) u in
        let p = e.past in
        equal (times place (way ps (parent ps k))) 0
        (λ q. let w = stays_if ps place (get_or (set old place 0) (parent ps k) 0) (parent ps k) q in
        let v : get_or (set old place 0) (parent ps k) 0 ≡ 0 = sym w ∙ sym d ∙ z in
        let ne : parent ps k ≡ place → ⊥ = λ r. let t : 0 < times place (way ps (parent ps k)) = rw r (itself ps rule place s l) in omega arith in
        let o = was (sym (get_or-set_other old place (parent ps k) 0 0 ne) ∙ v) in
        let b : get_or (set old place 0) k 0 ≡ 0 = get_or-set_other old place k 0 0 (λ r. omega arith) ∙ o in
        sym (stays_if ps place (get_or (set old place 0) k 0) k (way_k ∙ q) ∙ b))
        (λ q. let w = way_k in sym (ends_if ps place (get_or (set old place 0) k 0) k (omega arith)))

    stays_k : (get_or ms (parent ps k) 0 ≡ 0 → ⊥) → get_or (set old place 0) k 0 ≡ pick (under ps place k) 0 (get_or (set old place 0) k 0)
    stays_k f =
        let u = up in
        let d = e.done (parent ps k) u in
        equal (times place (way ps (parent ps k))) 0
        (λ q. sym (stays_if ps place (get_or (set old place 0) k 0) k (way_k ∙ q)))
        (λ q. absurd (f (d ∙ ends_if ps place (get_or (set old place 0) (parent ps k) 0) (parent ps k) (omega arith))))

    pub ending_zero : get_or ms (parent ps k) 0 ≡ 0 → Ending ps place (set old place 0) (set ms k 0) (k + 1)
    ending_zero z = record {
      long = length-set ms k 0 ∙ e.long;
      done = λ j b. equal j k
          (λ q. rw q (get_or-set_same ms k 0 0 (let g = e.long in let t = length-set old place 0 in omega arith) ∙ ends_k z))
          (λ q. get_or-set_other ms k j 0 0 q ∙ e.done j (omega arith));
      left = λ j b. get_or-set_other ms k j 0 0 (λ q. omega arith) ∙ e.left j (omega arith);
      within = omega arith;
      past = let p = e.past in omega arith;
    }

    pub ending_stay : (get_or ms (parent ps k) 0 ≡ 0 → ⊥) → Ending ps place (set old place 0) ms (k + 1)
    ending_stay f = record {
      long = e.long;
      done = λ j b. equal j k (λ q. rw q (e.left k (omega arith) ∙ stays_k f)) (λ q. e.done j (omega arith));
      left = λ j b. e.left j (omega arith);
      within = omega arith;
      past = let p = e.past in omega arith;
    }

  -- the deleted place is 0 either way
  either : (j : ℕ) → pick (under ps place j) 0 (get_or (set old place 0) j 0) ≡ pick (under ps place j) 0 (get_or old j 0)
  either j = equal j place
      (λ q. rw q (let i = itself ps rule place s l in ends_if ps place (get_or (set old place 0) place 0) place i ∙ sym (ends_if ps place (get_or old place 0) place i)))
      (λ q. ap (λ (x : ℕ). pick (under ps place j) 0 x) (get_or-set_other old place j 0 0 q))

  pub ending_end : {ms : List ℕ} {k : ℕ} → Ending ps place (set old place 0) ms k → length ps ≤ k → Put old 0 (ended_from 0 ps place (take (length ps) old)) ms k
  ending_end {ms} {k} e h =
      let w = e.within in
      let n : k ≡ length ps = omega arith in
      rw n (ended_put ps old even place ms (e.long ∙ length-set old place 0)
      (λ i b. e.done i (omega arith) ∙ either i)
      (λ i b. e.left i (omega arith) ∙ get_or-set_other old place i 0 0 (λ r. omega arith)))

-- the marks keep their rule: the root is live, and what is live hangs under a live one
module _ (ps : List ℕ) (rule : Ruled ps) (ms : List ℕ) (even : length ms ≡ length ps) (marks : Marks ps (live ms)) (place : ℕ) (s : 0 < place) (l : place < length ps) where
  at_place : (k : ℕ) → k < length ps → get_or (ended_from 0 ps place ms) k 0 ≡ pick (under ps place k) 0 (get_or ms k 0)
  at_place k h = ended_at 0 ps place ms k (omega arith) ∙ ap (λ (j : ℕ). pick (under ps place j) 0 (get_or ms k 0)) (zero-add k)

  pub stays_live : (k : ℕ) → live ms k ≡ true → times place (way ps k) ≡ 0 → live (ended_from 0 ps place ms) k ≡ true
  stays_live k e z =
      let g = at_place k (marks.place k e) ∙ stays_if ps place (get_or ms k 0) k z in
      lt-ltb 0 (get_or (ended_from 0 ps place ms) k 0) (let p = ltb-true 0 (get_or ms k 0) e in omega arith)

  still : (k : ℕ) → live (ended_from 0 ps place ms) k ≡ true → k < length ps
  still k e = let t = marked_there (ended_from 0 ps place ms) k e in let n = ended_long 0 ps place ms in omega arith

  pub was_live : (k : ℕ) → live (ended_from 0 ps place ms) k ≡ true → (live ms k ≡ true) × (times place (way ps k) ≡ 0)
  was_live k e =
      let p = ltb-true 0 (get_or (ended_from 0 ps place ms) k 0) e in
      let a = at_place k (still k e) in
      equal (times place (way ps k)) 0
      (λ z. (lt-ltb 0 (get_or ms k 0) (let b = stays_if ps place (get_or ms k 0) k z in omega arith), z))
      (λ z. absurd (let b = ends_if ps place (get_or ms k 0) k (omega arith) in omega arith))

  pub marks_kept : Marks ps (live (ended_from 0 ps place ms))
  marks_kept = record {
    root = stays_live 0 marks.root (way_past ps rule place 0 s (omega arith));
    place = still;
    up = λ k z e.
        let w = was_live k e in
        let gone = w.1 in
        let v = way_on ps rule place k z (still k e) in
        stays_live (parent ps k) (marks.up k z w.0) (omega arith);
  }
