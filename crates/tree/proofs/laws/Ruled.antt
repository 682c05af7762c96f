-- The rule's test holds exactly where the rule does: entry by entry, back from the facts to the test.
-- Assumes nothing.
use mathlib.Core.Path.{◌≡◌, refl, sym, ◌∙◌}
use mathlib.Core.Bool.{Bool, true, false, ◌&&◌, and-eq-true_iff}
use mathlib.Core.List.{List, [], ◌∷◌}
use Prim.Native.Nat.{ℕ, zero, suc, ◌+◌, ◌≤◌, ◌<◌}
use native.Mathlib.Nat.{add-zero, zero-add, add-suc, suc-add}
use native.Mathlib.Omega.{arith}
use borrow.Author.Tests.{eq-eqb, ne_eqb, ltb-true, lt-ltb, le-leb}
use lib.ListN.{length, get_or, take, drop}
use lib.Dec.{leb}
use lib.Seq.{get_or-take}
use Rattle.layout.specs.Answer.{pick}
use Rattle.tree.specs.Table.{Table, rows, stops, flags, live, upheld, upheld_from, marks_ok, lists_ok, parent, kept, kept_from, parents_ok, rises_from, start_of, table_ok, name_bytes}
use Rattle.tree.specs.Rule.{Rule, Live}
use Rattle.tree.proofs.laws.Counts.{equal}
use Rattle.tree.proofs.laws.Sound.{Sound, sound, cut, rows_long, stops_long}

-- ── below the count a list is as it was ──

-- where a name starts and ends goes by the ends up to it
pub start_cut : (n : ℕ) (es : List ℕ) (k : ℕ) → k ≤ n → start_of (take n es) k ≡ start_of es k
start_cut n es zero h = refl
start_cut n es (suc k) h = get_or-take n es k 0 h

pub name_cut : (n : ℕ) (es ns : List ℕ) (k : ℕ) → k < n → name_bytes (take n es) ns k ≡ name_bytes es ns k
name_cut n es ns k h = rw (start_cut n es k (omega arith), get_or-take n es k 0 h)

-- ── from the test to the rule ──

pub rule_of_sound : (t : Table) → Sound t → Rule t
rule_of_sound t s =
    let n = rows_long s in
    let some : 0 < t.count = omega (arith, s.kept.ruling.some) in
    let row : (k : ℕ) → k < t.count → parent (rows t) k ≡ parent t.parents k = λ k h. get_or-take t.count t.parents k 0 h in
    let mark : (k : ℕ) → k < t.count → get_or (flags t) k 0 ≡ get_or t.marks k 0 = λ k h. get_or-take t.count t.marks k 0 h in
    record {
      handled = s.handled;
      parented = s.parented;
      ended = s.ended;
      marked = s.flagged;
      some = some;
      few = s.few;
      root = sym (row 0 some) ∙ s.root;
      smaller = λ k o h. omega (arith, row k h, s.kept.ruling.smaller k o (omega arith));
      root_live = omega (arith, mark 0 some, ltb-true 0 (get_or (flags t) 0 0) s.marks.root);
      up = λ k o h l.
          let p = s.kept.ruling.smaller k o (omega arith) in
          let u = s.marks.up k o (lt-ltb 0 (get_or (flags t) k 0) (omega (arith, mark k h))) in
          let m = mark (parent (rows t) k) (omega arith) in
          let v : Live t (parent (rows t) k) = omega (arith, m, ltb-true 0 (get_or (flags t) (parent (rows t) k) 0) u) in
          rw (row k h) at v;
      rises = λ k h. let r = s.kept.spaced.rises k (omega (arith, stops_long s)) in omega (arith, r, start_cut t.count t.ends k (omega arith), get_or-take t.count t.ends k 0 h);
      within = λ k h. let r = s.kept.spaced.within k (omega (arith, stops_long s)) in omega (arith, r, get_or-take t.count t.ends k 0 h);
    }

-- ── from the rule to the test ──

-- a test that goes entry by entry holds where each entry passes
module _ (P : ℕ → ℕ → Bool) (F : ℕ → List ℕ → Bool) (none : (i : ℕ) → F i [] ≡ true) (more : (i p : ℕ) (ps : List ℕ) → F i (p ∷ ps) ≡ (P i p && F (suc i) ps)) where
  all_pass : (ps : List ℕ) (i : ℕ) → ((k : ℕ) → k < length ps → P (i + k) (get_or ps k 0) ≡ true) → F i ps ≡ true
  all_pass [] i f = none i
  all_pass (p ∷ ps) i f =
      more i p ps ∙ (and-eq-true_iff (P i p) (F (suc i) ps)).1
      (rw add-zero at (f 0 (omega arith)), all_pass ps (suc i) (λ k h. rw (suc-add, ← add-suc) (f (suc k) (omega arith))))

pub kept_all : (ps : List ℕ) → ((k : ℕ) → k < length ps → kept k (get_or ps k 0) ≡ true) → kept_from 0 ps ≡ true
unfolding kept_from
kept_all ps f = all_pass kept kept_from (λ i. refl) (λ i p ps. refl) ps 0 (λ k h. rw zero-add (f k h))

upheld_all : (ms ps : List ℕ) → ((k : ℕ) → k < length ps → upheld ms (suc k) (get_or ps k 0) ≡ true) → upheld_from 1 ps ms ≡ true
unfolding upheld_from
upheld_all ms ps f = all_pass (upheld ms) (λ i qs. upheld_from i qs ms) (λ i. refl) (λ i p qs. refl) ps 1 (λ k h. rw (suc-add, zero-add) (f k h))

rises_all : (from : ℕ) (es : List ℕ) (size : ℕ) → ((k : ℕ) → k < length es → (get_or (from ∷ es) k 0 ≤ get_or es k 0) × (get_or es k 0 ≤ size)) → rises_from from es size ≡ true
unfolding rises_from
rises_all from [] size f = refl
rises_all from (e ∷ es) size f =
    let h = f 0 (omega arith) in
    (and-eq-true_iff (leb from e && leb e size) (rises_from e es size)).1
    ((and-eq-true_iff (leb from e) (leb e size)).1 (le-leb from e h.0, le-leb e size h.1), rises_all e es size (λ k l. f (suc k) (omega arith)))

kept_one : (k p : ℕ) → (k ≡ 0 → p ≡ 0) → (0 < k → p < k) → kept k p ≡ true
kept_one k p f g = equal k 0 (λ e. rw (eq-eqb k 0 e, eq-eqb p 0 (f e))) (λ e. rw (ne_eqb k 0 e, lt-ltb p k (g (omega arith))))

upheld_one : (ms : List ℕ) (k p : ℕ) → (0 < get_or ms k 0 → 0 < get_or ms p 0) → upheld ms k p ≡ true
upheld_one ms k p f = go (live ms k) refl
  where
    go : (b : Bool) → live ms k ≡ b → pick b (live ms p) true ≡ true
    go true e = lt-ltb 0 (get_or ms p 0) (f (ltb-true 0 (get_or ms k 0) e))
    go false e = refl

lists_so : (hs ps es ms : List ℕ) → length hs ≡ 1024 → length ps ≡ 1024 → length es ≡ 1024 → length ms ≡ 1024 → lists_ok hs ps es ms ≡ true
lists_so hs ps es ms a b c d = rw (eq-eqb (length hs) 1024 a, eq-eqb (length ps) 1024 b, eq-eqb (length es) 1024 c, eq-eqb (length ms) 1024 d)

module _ (t : Table) (r : Rule t) where
  rows_count : length (rows t) ≡ t.count
  rows_count = cut t.count t.parents r.parented r.few

  stops_count : length (stops t) ≡ t.count
  stops_count = cut t.count t.ends r.ended r.few

  row_at : (k : ℕ) → k < t.count → parent (rows t) k ≡ parent t.parents k
  row_at k h = get_or-take t.count t.parents k 0 h

  mark_at : (k : ℕ) → k < t.count → get_or (flags t) k 0 ≡ get_or t.marks k 0
  mark_at k h = get_or-take t.count t.marks k 0 h

  parents_so : parents_ok (rows t) ≡ true
  parents_so =
      let n = rows_count in
      let o = r.some in
      let f = r.few in
      let e = kept_all (rows t) (λ k h. kept_one k (parent (rows t) k)
      (λ z. row_at k (omega arith) ∙ rw z r.root)
      (λ o. rw (row_at k (omega arith)) (r.smaller k o (omega arith)))) in
      rw (lt-ltb 0 (length (rows t)) (omega arith), le-leb (length (rows t)) 1024 (omega arith), e)

  ends_so : rises_from 0 (stops t) (length t.names) ≡ true
  ends_so = rises_all 0 (stops t) (length t.names) (λ k h.
      let l : k < t.count = omega (arith, stops_count) in
      let e = get_or-take t.count t.ends k 0 l in
      (omega (arith, e, start_cut t.count t.ends k (omega arith), r.rises k l), omega (arith, e, r.within k l)))

  marks_so : marks_ok (rows t) (flags t) ≡ true
  marks_so =
      let o = r.some in
      (and-eq-true_iff (live (flags t) 0) (upheld_from 1 (drop 1 (rows t)) (flags t))).1 (
        lt-ltb 0 (get_or (flags t) 0 0) (omega (arith, mark_at 0 o, r.root_live)),
        behind (rows t) rows_count row_at,
      )
    where
      behind : (ps : List ℕ) → length ps ≡ t.count → ((k : ℕ) → k < t.count → parent ps k ≡ parent t.parents k) → upheld_from 1 (drop 1 ps) (flags t) ≡ true
      behind [] e f = absurd (omega (arith, r.some))
      behind (p ∷ ps) e f = upheld_all (flags t) ps (λ k h. upheld_one (flags t) (suc k) (get_or ps k 0) (λ l.
          let j : suc k < t.count = omega arith in
          let q = f (suc k) j in
          let s = r.smaller (suc k) (omega arith) j in
          let u = r.up (suc k) (omega arith) j (omega (arith, mark_at (suc k) j)) in
          let m = mark_at (get_or ps k 0) (omega arith) in
          let v : Live t (get_or ps k 0) = rw q u in
          omega (arith, m, v)))

  pub rule_ok : table_ok t ≡ true
  unfolding table_ok
  rule_ok =
      let l = lists_so t.handles t.parents t.ends t.marks r.handled r.parented r.ended r.marked in
      rw (l, le-leb t.count 1024 r.few, parents_so, ends_so, marks_so)

pub ok_rule : (t : Table) → table_ok t ≡ true → Rule t
ok_rule t e = rule_of_sound t (sound t e)
