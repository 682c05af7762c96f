-- What deleting leaves: a table that is accepted, whose walk is the walk before without what ended, and in which every other path stays.
-- Assumes nothing.
use mathlib.Core.Path.{◌≡◌, refl, sym, ap, ◌∙◌}
use mathlib.Core.Bool.{Bool, true, false, ◌&&◌, and-eq-true_iff}
use mathlib.Core.List.{List, [], ◌∷◌, ◌++◌}
use Prim.Native.Nat.{ℕ, suc, ◌<◌}
use native.Mathlib.Nat.{zero-add}
use native.Mathlib.Omega.{arith}
use borrow.Author.Tests.{lt-ltb, ltb-true, ltb-false}
use lib.Dec.{ltb, leb}
use lib.ListN.{length, get_or, take, drop, length-append, length-drop, get_or-append}
use lib.Seq.{get_or-take, take-append_seam}
use Rattle.layout.specs.Answer.{Answer, got, refused, bare, pick}
use Rattle.layout.specs.Refusals.{ROOM, PLACE}
use Rattle.layout.specs.Written.{Wrote, says, no, answer_of, left_of}
use Rattle.layout.proofs.laws.Numbers.{zero_one}
use Rattle.tree.specs.Facts.{Marks}
use Rattle.tree.specs.Listed.{times, Every, none, more, Sorted, done, next}
use Rattle.tree.specs.Path.{said_if, path_said}
use Rattle.tree.specs.Rule.{Rule, Live}
use Rattle.tree.specs.Table.{Table, table, rows, flags, live, parent, table_at}
use Rattle.tree.specs.Way.{Walk}
use Rattle.tree.proofs.laws.Accepted.{table_got, table_all}
use Rattle.tree.proofs.laws.Counts.{equal, hit, miss}
use Rattle.tree.proofs.laws.Ruled.{rule_ok}
use Rattle.tree.proofs.laws.Sound.{Sound, sound, marked_there, marks_long, even, behind}
use Rattle.shots.specs.Deleted.{under, ended, deleted, spared, delete_said}
use Rattle.shots.proofs.Endings.{ended_long, ended_at, marks_kept}

-- ── lists without what ended ──

module _ (ps : List ℕ) (place : ℕ) where
  spared_times : (k : ℕ) (l : List ℕ) → times k (spared ps place l) ≡ pick (under ps place k) 0 (times k l)
  unfolding spared
  spared_times k [] = by (under ps place k)
    where
      by : (b : Bool) → 0 ≡ pick {A = ℕ} b 0 0
      by true = refl
      by false = refl
  spared_times k (x ∷ l) = equal k x
      (λ z. rw (← z) (same (under ps place k) (spared_times k l)))
      (λ z. other (under ps place x) z (spared_times k l) ∙ ap (pick (under ps place k) 0) (sym (miss k x l z)))
    where
      same : (b : Bool) → times k (spared ps place l) ≡ pick b 0 (times k l) → times k (pick b (spared ps place l) (k ∷ spared ps place l)) ≡ pick b 0 (times k (k ∷ l))
      same true e = e
      same false e = hit k k (spared ps place l) refl ∙ ap suc e ∙ sym (hit k k l refl)

      other : (b : Bool) → (k ≡ x → ⊥) → times k (spared ps place l) ≡ pick (under ps place k) 0 (times k l) → times k (pick b (spared ps place l) (x ∷ spared ps place l)) ≡ pick (under ps place k) 0 (times k l)
      other true z e = e
      other false z e = miss k x (spared ps place l) z ∙ e

  spared_every : {P : ℕ → Type 0} {l : List ℕ} → Every P l → Every P (spared ps place l)
  unfolding spared
  spared_every none = none
  spared_every {P} (more {x} {l} p e) = by (under ps place x) (spared_every e)
    where
      by : (b : Bool) → Every P (spared ps place l) → Every P (pick b (spared ps place l) (x ∷ spared ps place l))
      by true f = f
      by false f = more p f

  spared_sorted : {B : ℕ → ℕ → Type 0} {l : List ℕ} → Sorted B l → Sorted B (spared ps place l)
  unfolding spared
  spared_sorted done = done
  spared_sorted {B} (next {x} {l} e s) = by (under ps place x) (spared_every e) (spared_sorted s)
    where
      by : (b : Bool) → Every (B x) (spared ps place l) → Sorted B (spared ps place l) → Sorted B (pick b (spared ps place l) (x ∷ spared ps place l))
      by true f g = g
      by false f g = next f g

-- ── the table ──

module _ (t : Table) (r : Rule t) (place : ℕ) (o : 0 < place) (h : live (flags t) place ≡ true) where
  s : Sound t
  s = sound t (rule_ok t r)

  there : place < length (rows t)
  there = let a = marked_there (flags t) place h in let n = even s in omega arith

  ended_count : length (ended t place) ≡ t.count
  ended_count = ended_long 0 (rows t) place (flags t) ∙ sym (marks_long s)

  mark_at : (k : ℕ) → k < t.count → get_or (deleted t place).marks k 0 ≡ get_or (ended t place) k 0
  mark_at k l = get_or-append (ended t place) (drop (length (ended t place)) t.marks) 0 k (omega (arith, ended_count))

  kept : Marks (rows t) (live (ended t place))
  kept = marks_kept (rows t) s.kept.ruling (flags t) (even s) s.marks place o there

  pub deleted_rule : Rule (deleted t place)
  deleted_rule =
      let few = r.few in
      let long = r.marked in
      let n = ended_count in
      let d = length-drop (length (ended t place)) t.marks in
      record {
        handled = r.handled;
        parented = r.parented;
        ended = r.ended;
        marked = length-append (ended t place) (drop (length (ended t place)) t.marks) ∙ omega arith;
        some = r.some;
        few = few;
        root = r.root;
        smaller = r.smaller;
        root_live = omega (arith, mark_at 0 r.some, ltb-true 0 (get_or (ended t place) 0 0) kept.root);
        up = λ k a b l.
            let same = get_or-take t.count t.parents k 0 b in
            let u = kept.up k a (lt-ltb 0 (get_or (ended t place) k 0) (omega (arith, mark_at k b))) in
            let less = r.smaller k a b in
            let v : Live (deleted t place) (parent (rows t) k) = omega (arith, mark_at (parent (rows t) k) (omega arith), ltb-true 0 (get_or (ended t place) (parent (rows t) k) 0) u) in
            rw same at v;
        rises = r.rises;
        within = r.within;
      }

  pub flags_are : flags (deleted t place) ≡ ended t place
  flags_are = ap (λ (n : ℕ). take n (ended t place ++ drop (length (ended t place)) t.marks)) (sym ended_count) ∙ take-append_seam (ended t place) (drop (length (ended t place)) t.marks)

  -- live after is what was live before and did not end
  pub live_after : (k : ℕ) → live (flags (deleted t place)) k ≡ pick (under (rows t) place k) false (live (flags t) k)
  live_after k = ap (λ (ms : List ℕ). live ms k) flags_are ∙ by (ltb k t.count) refl
    where
      pick_live : (b : Bool) (m : ℕ) → ltb 0 (pick b 0 m) ≡ pick b false (ltb 0 m)
      pick_live true m = refl
      pick_live false m = refl

      pick_none : (b : Bool) → false ≡ pick {A = Bool} b false false
      pick_none true = refl
      pick_none false = refl

      dead : (b : Bool) → (b ≡ true → ⊥) → b ≡ false
      dead true f = absurd (f refl)
      dead false f = refl

      by : (b : Bool) → ltb k t.count ≡ b → live (ended t place) k ≡ pick (under (rows t) place k) false (live (flags t) k)
      by true e =
          let l = ltb-true k t.count e in
          ap (ltb 0) (ended_at 0 (rows t) place (flags t) k (omega (arith, marks_long s)) ∙ ap (λ (j : ℕ). pick (under (rows t) place j) 0 (get_or (flags t) k 0)) (zero-add k))
          ∙ pick_live (under (rows t) place k) (get_or (flags t) k 0)
      by false e =
          let l = ltb-false k t.count e in
          dead (live (ended t place) k) (λ y. omega (arith, l, marked_there (ended t place) k y, ended_count))
          ∙ pick_none (under (rows t) place k) ∙ ap (pick (under (rows t) place k) false) (sym (behind s (omega (arith, l))))

  -- the walk after is the walk before without the places whose way holds the place
  pub walk_deleted : (l : List ℕ) → Walk (rows t) (live (flags t)) l → Walk (rows (deleted t place)) (live (flags (deleted t place))) (spared (rows t) place l)
  walk_deleted l w = record {
    once = λ k. spared_times (rows t) place k l ∙ ap (pick (under (rows t) place k) 0) (w.once k) ∙ by (under (rows t) place k) (live (flags t) k) ∙ ap (λ (b : Bool). pick {A = ℕ} b 1 0) (sym (live_after k));
    order = spared_sorted (rows t) place w.order;
  }
    where
      by : (b c : Bool) → pick {A = ℕ} b 0 (pick c 1 0) ≡ pick (pick b false c) 1 0
      by true c = refl
      by false c = refl

  module _ {n : ℕ} (e : table_at t ≡ got tt n) where
    pub deleted_kept : table_at (deleted t place) ≡ got tt t.count
    deleted_kept = table_all (deleted t place) deleted_rule (table_got t e).2

    -- the others' paths stay
    pub path_stays : (k : ℕ) → under (rows t) place k ≡ false → path_said (deleted t place) k ≡ path_said t k
    unfolding path_said
    path_stays k z = rw (deleted_kept, e, live_after k, z)

-- what is left where it was not refused
pub deleted_left : (t : Table) (place : ℕ) {m : ℕ} {ms : List ℕ} → Wrote (delete_said t place) t.marks (got tt m) ms
    → (n : ℕ) × (table_at t ≡ got tt n) × (0 < place) × (live (flags t) place ≡ true) × (table t.handles t.parents t.ends ms t.count t.names ≡ deleted t place)
unfolding delete_said answer_of left_of
deleted_left t place {m} {ms} w = of (table_at t) refl w.answers w.leaves
  where
    Left : Type 0
    Left = (n : ℕ) × (table_at t ≡ got tt n) × (0 < place) × (live (flags t) place ≡ true) × (table t.handles t.parents t.ends ms t.count t.names ≡ deleted t place)

    fits : (n : ℕ) → table_at t ≡ got tt n → (ltb 0 place && live (flags t) place) ≡ true → (b : Bool) → got (tt {0}) m ≡ pick b (got (tt {0}) (length (ended t place))) (refused (bare ROOM))
        → ms ≡ pick b (ended t place ++ drop (length (ended t place)) t.marks) t.marks → Left
    fits n e both false a l = zero_one (cc)
    fits n e both true a l =
        let x = (and-eq-true_iff (ltb 0 place) (live (flags t) place)).0 both in
        (n, e, ltb-true 0 place x.0, x.1, ap (λ (k : List ℕ). table t.handles t.parents t.ends k t.count t.names) l)

    may : (n : ℕ) → table_at t ≡ got tt n → (b : Bool) → (ltb 0 place && live (flags t) place) ≡ b → got (tt {0}) m ≡ answer_of (pick b (says (ended t place)) (no (bare PLACE))) t.marks
        → ms ≡ left_of (pick b (says (ended t place)) (no (bare PLACE))) t.marks → Left
    may n e false f a l = zero_one (cc)
    may n e true f a l = fits n e f (leb (length (ended t place)) (length t.marks)) a l

    of : (x : Answer (Unit {0})) → table_at t ≡ x → got (tt {0}) m ≡ answer_of (said_if x (pick (ltb 0 place && live (flags t) place) (says (ended t place)) (no (bare PLACE)))) t.marks
        → ms ≡ left_of (said_if x (pick (ltb 0 place && live (flags t) place) (says (ended t place)) (no (bare PLACE)))) t.marks → Left
    of (refused why) e a l = zero_one (cc)
    of (got u n) e a l = may n e (ltb 0 place && live (flags t) place) refl a l
